-- The version that begins at a byte, by its number.
use Rattle.std.proofs.Common.{◌≡◌, ℕ, ◌+◌, ◌<◌, List, Option, Some, None, refl, sym, ap, ◌∙◌}
use Rattle.std.specs.Prelude.{IfSome, IsSome, MatchOption, ◌↔◌}
use Rattle.tuple_header.specs.declared.version.Header.{Header}
use Rattle.tuple_header.specs.declared.version.Row.{Row}
use Rattle.page_layout.specs.declared.pointer.Pointer.{Pointer}
use Rattle.page_sheet.specs.Layout.{slot_in, slots_in}
use Rattle.page_sheet.specs.Slots.{version_of, version_at}
use Rattle.page_sheet.specs.Standing.{BeginsAt}
use Rattle.page_sheet.proofs.Found.{version_at-found}
use Rattle.page_sheet.specs.Placing.{places_in, start_at}
use Rattle.page_sheet.proofs.PlacingLemmas.{start-found, start-normal, normal-started}

pub begun-version : (count : ℕ) (bytes : List ℕ) (n i from : ℕ) (r : Option (Header × Row)) → n ≡ i + 1 → i < count
    → MatchOption r (¬ BeginsAt bytes i from) (λ found. version_of (slot_in bytes i) ≡ Some (record { header = found.0; row = found.1 }))
    → IfSome r (λ found. version_at (slots_in count bytes) n ≡ Some (record { header = found.0; row = found.1 }))
begun-version count bytes n i from None e within is = tt
begun-version count bytes n i from (Some found) e within is = version_at-found count bytes n i e within ∙ is

pub begun-here : (count : ℕ) (bytes : List ℕ) (n i from : ℕ) (r : Option (Header × Row)) → n ≡ i + 1 → i < count
    → MatchOption r (¬ BeginsAt bytes i from) (λ found. version_of (slot_in bytes i) ≡ Some (record { header = found.0; row = found.1 }))
    → (IsSome r → BeginsAt bytes i from) → IsSome r ↔ (start_at (places_in count bytes) n ≡ Some from)
begun-here count bytes n i from None e within not begins = (
  λ none. absurd (cc none),
  λ at. absurd (let p = normal-started bytes i from (sym (start-found count bytes n i e within) ∙ at) in
      not (p.0.len, p.1 ∙ ap (λ (f : ℕ). Pointer.Normal (record { from = f; len = p.0.len })) p.2)),
)
begun-here count bytes n i from (Some found) e within is begins = (
  λ some. let b = begins some in
      start-found count bytes n i e within ∙ start-normal bytes i (record { from = from; len = b.0 }) b.1,
  λ at. refl,
)
