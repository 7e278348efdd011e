-- Lists of entries that hold the same, whatever their order.
use Rattle.std.proofs.Common.{◌≡◌, ◌⊎◌, false, get_or, ℕ, ◌+◌, ◌<◌, ◌≤◌, inl, inr, List, [], ◌∷◌, ◌++◌, length, Some, sym, ap, ◌∙◌, subst, ⊎_elim, arith, slice_get}
use Rattle.std.specs.List.{Contains}
use Rattle.std.specs.Prelude.{IsPermutation}
use Rattle.std.proofs.lemmas.List.Sorted.{Contains-permutation, IsPermutation-sym}
use Rattle.std.proofs.lemmas.List.Elements.{All-get_or, Contains-append_left, Contains-append_right, Contains-append_cases}
use Rattle.std.proofs.lemmas.Bool.{cases_lt}
use Rattle.std.proofs.lemmas.Option.{slice_get-get_or}
use Rattle.xid_circle.proofs.Members.{Contains-first, Contains-one}
use Rattle.index_entries.proofs.SetLemmas.{Contains-from_place}
use Rattle.index_entries.specs.Sets.{AddsEntry}
use Rattle.index_entries.specs.declared.entry.Entry.{Entry}
use Rattle.entry_columns.specs.Fits.{Fits}
use Rattle.index_making.specs.Filling.{AllFitColumn, Joins, HasBoth, HaveSame, HoldsEntry}

-- one entry more behind a batch
pub joined : (batch rest after : List Entry) (e : Entry) → after ≡ batch ++ e ∷ [] → Joins (batch ++ rest) (after ++ rest) e
joined batch rest after e is x = (back, forth)
  where
    back : Contains (after ++ rest) x → Contains (batch ++ rest) x ⊎ (x ≡ e)
    back there = elim (Contains-append_cases after rest x there) [
      | inl new ↦ elim (Contains-append_cases batch (e ∷ []) x (subst (λ (es : List Entry). Contains es x) is new)) [
        | inl old ↦ inl (Contains-append_left batch rest x old)
        | inr one ↦ inr (sym (Contains-one e x one))
      ]
      | inr old ↦ inl (Contains-append_right batch rest x old)
    ]

    behind : Contains (batch ++ e ∷ []) x → Contains (after ++ rest) x
    behind there = Contains-append_left after rest x (subst (λ (es : List Entry). Contains es x) (sym is) there)

    old : Contains (batch ++ rest) x → Contains (after ++ rest) x
    old there = elim (Contains-append_cases batch rest x there) [
      | inl first ↦ behind (Contains-append_left batch (e ∷ []) x first)
      | inr other ↦ Contains-append_right after rest x other
    ]

    forth : Contains (batch ++ rest) x ⊎ (x ≡ e) → Contains (after ++ rest) x
    forth (inl there) = old there
    forth (inr same) = behind (Contains-append_right batch (e ∷ []) x (subst (Contains (e ∷ [])) (sym same) (Contains-first e [])))

-- the batch and the rest are the index's
pub both-same : (batch rest both : List Entry) → HasBoth batch rest both → HaveSame (batch ++ rest) both
both-same batch rest both has x = (
  λ there. ⊎_elim (λ first. Contains-append_left batch rest x first) (λ other. Contains-append_right batch rest x other) ((has x).0 there),
  λ there. (has x).1 (Contains-append_cases batch rest x there),
)

pub batch-inserted : (batch rest both after : List Entry) → HasBoth batch rest both → after ≡ [] → HaveSame (batch ++ rest) (after ++ both)
batch-inserted batch rest both after has none = subst (λ (es : List Entry). HaveSame (batch ++ rest) (es ++ both)) (sym none) (both-same batch rest both has)

-- and one entry is added after that
pub joined-after : (old batch rest after : List Entry) (e : Entry) → HaveSame old (batch ++ rest) → after ≡ batch ++ e ∷ [] → Joins old (after ++ rest) e
joined-after old batch rest after e same is x =
    let joins = joined batch rest after e is x in (
      λ there. ⊎_elim (λ before. inl ((same x).0 before)) (λ new. inr new) (joins.0 there),
      λ there. joins.1 (⊎_elim (λ before. inl ((same x).1 before)) (λ new. inr new) there),
    )

pub some-in : (batch rest : List Entry) → HoldsEntry batch → HoldsEntry (batch ++ rest)
some-in batch rest (x, there) = (x, Contains-append_left batch rest x there)

-- A batch is sorted.

pub unsorted : (batch sorted rest both : List Entry) → IsPermutation batch sorted → HasBoth sorted rest both → HasBoth batch rest both
unsorted batch sorted rest both moved has x = (
  λ there. ⊎_elim (λ first. inl (Contains-permutation sorted batch x (IsPermutation-sym batch sorted moved) first)) (λ other. inr other) ((has x).0 there),
  λ there. (has x).1 (⊎_elim (λ first. inl (Contains-permutation batch sorted x moved first)) (λ other. inr other) there),
)

-- each of its entries can be in the index
pub each-fits : (batch : List Entry) (i : ℕ) (x : Entry) → AllFitColumn batch → i < length batch → Fits false false (get_or batch i x)
each-fits batch i x fit within = All-get_or (Fits false false) batch i x within fit

-- Its entries are inserted, as far as this place.

pub record Inserted (batch : List Entry) (i : ℕ) (rest now : List Entry) : Type 0 where
  pub each : (k : ℕ) (x : Entry) → k < i → slice_get batch k ≡ Some x → Contains now x
  pub kept : (x : Entry) → Contains rest x → Contains now x
  pub only : (x : Entry) → Contains now x → Contains batch x ⊎ Contains rest x

pub one-inserted : (batch : List Entry) (i : ℕ) (rest now after : List Entry) (e : Entry) → Inserted batch i rest now → slice_get batch i ≡ Some e → AddsEntry now after e
    → Inserted batch (i + 1) rest after
one-inserted batch i rest now after e before at adds = record {
  each = by;
  kept = λ x there. (adds.members x).1 (inl (before.kept x there));
  only = λ x there. ⊎_elim (λ old. before.only x old) (λ new. inl (subst (Contains batch) (sym new) (Contains-from_place batch e i at))) ((adds.members x).0 there);
}
  where
    by : (k : ℕ) (x : Entry) → k < i + 1 → slice_get batch k ≡ Some x → Contains after x
    by k x within is = elim (cases_lt k i) [
      | inl below ↦ (adds.members x).1 (inl (before.each k x below is))
      | inr above ↦
          let same : k ≡ i = omega (arith, within, above) in
          (adds.members x).1 (inr (let one : Some x ≡ Some e = sym is ∙ (ap (slice_get batch) same ∙ at) in cc))
    ]

pub all-inserted : (batch : List Entry) (i : ℕ) (rest now : List Entry) → length batch ≤ i → Inserted batch i rest now → HasBoth batch rest now
all-inserted batch i rest now past done x = (λ there. done.only x there, λ there. ⊎_elim (λ first. found first) (λ other. done.kept x other) there)
  where
    found : Contains batch x → Contains now x
    found (k, within, is) = done.each k x (omega (arith, within, past)) (slice_get-get_or batch k x within ∙ ap Some is)
