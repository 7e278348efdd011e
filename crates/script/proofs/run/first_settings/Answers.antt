use Rattle.std.proofs.Common.{refl, sym}
use Rattle.std.proofs.lemmas.Option.{none-some}
use Rattle.script.proofs.FirstLemmas.{bad_first, bad_text, bad_settings, first_used, nothing_given}
use Rattle.script.proofs.run.first_settings.Goals as goal

pub returns-in_default : goal.returns-in_default
returns-in_default g c = record {
  begins = tt;
  quiet = nothing_given _ _ _ _ c.requires.1 c.in-Ok.ensures.gives;
  none = tt;
  fails = (refl, bad_first _ _ _ _ c.in-Ok.next c.requires.0 c.in-Ok.ensures.takes c.in-Ok.ensures.line c.in_default.not-Line);
  caused = tt;
}

pub returns-in_default-settings_at-clause-fails : goal.returns-in_default-settings_at-clause-fails
returns-in_default-settings_at-clause-fails g c =
    let found = rw c.in-Line.is at c.in-Ok.ensures.line in (
      refl,
      bad_text _ _ _ _ c.in-Line.n c.requires.0 c.in-Ok.ensures.takes found.2 (λ s fits fit e. (rw c.as_slice.ensures at c.in_default-settings_at.ensures) s fit e),
    )

pub returns-in-Some-fault-clause-fails : goal.returns-in-Some-fault-clause-fails
returns-in-Some-fault-clause-fails g c =
    let found = rw c.in-Line.is at c.in-Ok.ensures.line in
    let read = rw c.as_slice.ensures at c.in-Some.ensures in
    (refl, bad_settings _ _ _ _ c.in-Line.n c.in-Some.settings c.requires.0 c.in-Ok.ensures.takes found.2 read (λ are. none-some _ (sym (c.in-Some-fault.ensures.none.1 are))))

pub returns-clause-begins : goal.returns-clause-begins
returns-clause-begins g c =
    let found = rw c.in-Line.is at c.in-Ok.ensures.line in
    let read = rw c.as_slice.ensures at c.in-Some.ensures in
    (c.in_default-fault.ensures.none.0 refl, read.0.indexed, rw c.consume.ensures (first_used _ _ _ _ c.in-Line.n c.in-Some.settings c.requires.0 c.in-Ok.ensures.takes found.2 read.1))
