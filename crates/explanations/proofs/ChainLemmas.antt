-- Each slot of a chain holds a version; and where no slots are, a chain is empty.
use Rattle.std.proofs.Common.{◌≡◌, ℕ, ◌<◌, ◌≤◌, Bool, nat_eq, List, [], length, get_or, Option, Some, None, arith, sym, ap, ◌∙◌, subst, slice_get}
use Rattle.std.specs.List.{IsDistinct}
use Rattle.std.specs.Option.{option_map}
use Rattle.std.proofs.lemmas.Option.{none-some, slice_get_within, get_or_from_slice_get}
use Rattle.tuple_header.specs.Version.{Version}
use Rattle.page_sheet.specs.declared.slot.Slot.{Slot}
use Rattle.page_sheet.specs.Slots.{header_at, version_at}
use Rattle.page_sheet.proofs.SlotLemmas.{version-from_header}
use Rattle.tuple_header.specs.declared.version.Header.{Header}
use Rattle.commit_status.specs.Window.{Window}
use Rattle.snapshot.specs.Snap.{Snap}
use Rattle.hot_chain.specs.Chain.{IsChain}
use Rattle.sound_page.proofs.Links.{member-version}
use Rattle.reasons.specs.declared.reason.Verdict.{Verdict}
use Rattle.reasons.specs.Reasons.{IsVerdictIn}
use Rattle.index_lookup.proofs.Fetching.{none-first}
use Rattle.explanations.specs.declared.versions.ShownVersion.{ShownVersion}
use Rattle.explanations.specs.Shown.{IsShown}

abbrev pub shown_of : ℕ → Verdict → ShownVersion
shown_of slot verdict = record { slot = slot; verdict = verdict }

pub chain-header : (aborted : ℕ → Bool) (slots : List Slot) (number n k : ℕ) (chain : List ℕ) → IsChain aborted slots number chain → slice_get chain n ≡ Some k → ¬ (header_at slots k ≡ None)
chain-header aborted slots number n k chain c at none =
    let v = member-version aborted slots number chain n c (slice_get_within chain n k at) in
    let there : version_at slots k ≡ Some v.version = ap (version_at slots) (sym (get_or_from_slice_get chain n k 0 at)) ∙ v.there in
    none-some v.version.header (sym none ∙ ap (option_map (λ (t : Version). t.header)) there)

distinct-none : IsDistinct nat_eq []
unfolding IsDistinct
distinct-none = tt

pub chain-nowhere : (aborted : ℕ → Bool) (n : ℕ) → IsChain aborted [] n []
chain-nowhere aborted n = record {
  start = sym (none-first n);
  linked = λ i more. absurd (omega arith);
  distinct = distinct-none;
  end = λ some. absurd (omega arith);
}

-- the version of a header, with its verdict
pub header-version : (slots : List Slot) (k : ℕ) (h : Header) → header_at slots k ≡ Some h → (w : Window) (s : Snap) (own : List ℕ) (verdict : Verdict)
    → IsVerdictIn w s own h verdict → IsShown w s own slots (shown_of k verdict)
header-version slots k h at w s own verdict is =
    let v = version-from_header slots k h at in
    record { version = v.0; there = v.1; verdict = subst (λ (g : Header). IsVerdictIn w s own g verdict) v.2 is }
