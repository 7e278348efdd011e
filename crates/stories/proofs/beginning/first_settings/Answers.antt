use Rattle.std.proofs.Common.{refl, sym}
use Rattle.std.proofs.lemmas.Option.{none-some}
use Rattle.script.proofs.FirstLemmas.{bad_first, bad_text, bad_settings, first_used}
use Rattle.stories.proofs.DrawOutcomeLemmas.{caused-by}
use Rattle.stories.proofs.OutcomeLemmas.{read-fails, line-spelled}
use Rattle.stories.proofs.beginning.first_settings.Goals as goal

pub returns-in-Err-clause-fails : goal.returns-in-Err-clause-fails
returns-in-Err-clause-fails g c = read-fails c.in-Err.fault _ _ c.in-Err.ensures.fault

pub returns-in-Err-clause-caused : goal.returns-in-Err-clause-caused
returns-in-Err-clause-caused g c = caused-by _ _ c.in-Err.ensures.fault

pub returns-in_default-clause-fails : goal.returns-in_default-clause-fails
returns-in_default-clause-fails g c = (refl, bad_first _ _ _ _ c.in-Ok.next c.requires.0 c.in-Ok.ensures.takes c.in-Ok.ensures.line c.in_default.not-Line)

pub returns-in_default-settings_at-clause-fails : goal.returns-in_default-settings_at-clause-fails
returns-in_default-settings_at-clause-fails g c =
    let found = rw c.in-Line.is at c.in-Ok.ensures.line in (
      refl,
      bad_text _ _ _ _ c.in-Line.n c.requires.0 c.in-Ok.ensures.takes found.2 (λ s fits fit e. (rw c.as_slice.ensures at c.in_default-settings_at.ensures) s fit e),
    )

pub returns-in-Some-fault-clause-fails : goal.returns-in-Some-fault-clause-fails
returns-in-Some-fault-clause-fails g c =
    let found = rw c.in-Line.is at c.in-Ok.ensures.line in
    let read = rw c.as_slice.ensures at c.in-Some.ensures in
    (refl, bad_settings _ _ _ _ c.in-Line.n c.in-Some.settings c.requires.0 c.in-Ok.ensures.takes found.2 read (λ are. none-some _ (sym (c.in-Some-fault.ensures.none.1 are))))

pub returns-clause-begins : goal.returns-clause-begins
returns-clause-begins g c =
    let found = rw c.in-Line.is at c.in-Ok.ensures.line in
    let read = rw c.as_slice.ensures at c.in-Some.ensures in
    let added = rw c.as_slice-2.ensures at c.in-Ok-extend.ensures.added in (
      c.in_default-fault.ensures.none.0 refl,
      read.0.indexed,
      line-spelled _ _ _ _ added c.requires.1 read.1,
      rw c.consume.ensures (first_used _ _ _ _ c.in-Line.n c.in-Some.settings c.requires.0 c.in-Ok.ensures.takes found.2 read.1),
    )
