-- A scan along an index meets no more rows, or keys, than the index has entries.
use Rattle.std.proofs.Common.{◌≡◌, inl, inr, ◌∙◌, ℕ, zero, suc, ◌+◌, ◌≤◌, List, [], ◌∷◌, length, Option, Some, None, Contains, refl, sym, ap, subst, arith}
use Rattle.std.proofs.lemmas.List.{length-append}
use Rattle.std.proofs.lemmas.Int.{ints}
use Rattle.index_entries.specs.declared.entry.Entry.{Entry}
use Rattle.index_lookup.specs.declared.index_scan.IndexPosition.{IndexPosition}
use Rattle.index_lookup.specs.declared.index_scan.IndexRange.{IndexRange}
use Rattle.index_lookup.specs.Walking.{ComesAfter}
use Rattle.tuple_header.specs.declared.version.Row.{Row}
use Rattle.table_indexes.specs.Indexes.{entries_in}
use Rattle.table_scans.specs.declared.progress.KeyRange.{KeyRange}
use Rattle.table_scans.specs.Scans.{Sight, ScansIndex, index_begins, index_goes_on}
use Rattle.table_scans.specs.Keys.{ScansKeys, keys_begin, keys_go_on}

-- One entry is taken away, and what else was there stays.

pub record Without (entries : List Entry) (e : Entry) : Type 0 where
  pub rest : List Entry
  pub fewer : length entries ≡ length rest + 1
  pub stays : (x : Entry) → (x ≡ e → ⊥) → Contains entries x → Contains rest x

contains-rest : (y x : Entry) (xs : List Entry) → Contains xs x → Contains (y ∷ xs) x
contains-rest y x xs (i, within, is) = (suc i, omega (arith, within), is)

take_away : (entries : List Entry) (e : Entry) → Contains entries e → Without entries e
take_away [] e (i, within, is) = absurd (omega (arith, within))
take_away (y ∷ entries) e (zero, within, is) = record { rest = entries; fewer = omega arith; stays = stays }
  where
    stays : (x : Entry) → (x ≡ e → ⊥) → Contains (y ∷ entries) x → Contains entries x
    stays x other (zero, in_list, same) = absurd (other (sym same ∙ is))
    stays x other (suc i, in_list, same) = (i, omega (arith, in_list), same)
take_away (y ∷ entries) e (suc i, within, is) =
    let without = take_away entries e (i, omega (arith, within), is) in
    record { rest = y ∷ without.rest; fewer = (let fewer = without.fewer in omega arith); stays = stays without }
  where
    stays : (without : Without entries e) (x : Entry) → (x ≡ e → ⊥) → Contains (y ∷ entries) x → Contains (y ∷ without.rest) x
    stays without x other (zero, in_list, same) = (zero, omega arith, same)
    stays without x other (suc j, in_list, same) = contains-rest y x without.rest (without.stays x other (j, omega (arith, in_list), same))

-- The order of an index.

-- no entry comes after its own place
not-after_itself : (e x : Entry) (position : IndexPosition) → position.value ≡ e.value → position.key ≡ e.key → ComesAfter x (Some position) → x ≡ e → ⊥
not-after_itself e x position value key (inl less) same = let v = ap (λ (y : Entry). y.value) same in absurd (grind (arith, ints))
not-after_itself e x position value key (inr (alike, less)) same = let k = ap (λ (y : Entry). y.key) same in absurd (omega arith)

-- what comes after an entry's place comes after what that entry does
after-later : (e x : Entry) (position : IndexPosition) (last : Option IndexPosition) → position.value ≡ e.value → position.key ≡ e.key
    → ComesAfter e last → ComesAfter x (Some position) → ComesAfter x last
after-later e x position None value key first later = tt
after-later e x position (Some last) value key (inl first) (inl later) = inl (grind (arith, ints))
after-later e x position (Some last) value key (inl first) (inr (alike, later)) = inl (grind (arith, ints))
after-later e x position (Some last) value key (inr (same, first)) (inl later) = inl (grind (arith, ints))
after-later e x position (Some last) value key (inr (same, first)) (inr (alike, later)) = inr (same ∙ sym value ∙ alike, omega arith)

-- A scan.

-- so many entries are left behind the scan, and all that come after its last place are among them
pub record Remains (t : Sight) (range left : IndexRange) (rows : List Row) : Type 0 where
  pub rest : List Entry
  pub count : length rows + length rest ≡ length (entries_in t.heap.indexes range.index)
  pub index : left.index ≡ range.index
  pub among : (x : Entry) → Contains (entries_in t.heap.indexes range.index) x → ComesAfter x left.last → Contains rest x

remains : (t : Sight) (range left : IndexRange) (rows : List Row) → ScansIndex t range left rows → Remains t range left rows
remains t range _ _ index_begins = record { rest = entries_in t.heap.indexes range.index; count = omega arith; index = refl; among = λ x there after. there }
remains t range _ _ (index_goes_on left rows position row scans next) =
    let before = remains t range left rows scans in
    let there = subst (λ index. Contains (entries_in t.heap.indexes index) next.entry) before.index next.there in
    let without = take_away before.rest next.entry (before.among next.entry there next.lies.after) in
    record {
      rest = without.rest;
      count = (let long = length-append rows (row ∷ []) in let fewer = without.fewer in let all = before.count in omega arith);
      index = before.index;
      among = λ x is after. without.stays x (not-after_itself next.entry x position next.value next.key after)
          (before.among x is (after-later next.entry x position left.last next.value next.key next.lies.after after));
    }

pub few-scanned : (t : Sight) (range left : IndexRange) (rows : List Row) → ScansIndex t range left rows → length rows ≤ length (entries_in t.heap.indexes range.index)
few-scanned t range left rows scans = let count = (remains t range left rows scans).count in omega arith

-- A scan over keys alone.

record KeysRemain (t : Sight) (range left : KeyRange) (keys : List ℕ) : Type 0 where
  pub rest : List Entry
  pub count : length keys + length rest ≡ length (entries_in t.heap.indexes 0)
  pub among : (x : Entry) → Contains (entries_in t.heap.indexes 0) x → ComesAfter x left.last → Contains rest x

keys_remain : (t : Sight) (range left : KeyRange) (keys : List ℕ) → ScansKeys t range left keys → KeysRemain t range left keys
keys_remain t range _ _ keys_begin = record { rest = entries_in t.heap.indexes 0; count = omega arith; among = λ x there after. there }
keys_remain t range _ _ (keys_go_on left keys position scans next) =
    let before = keys_remain t range left keys scans in
    let without = take_away before.rest next.entry (before.among next.entry next.there next.lies.after) in
    record {
      rest = without.rest;
      count = (let long = length-append keys (position.key ∷ []) in let fewer = without.fewer in let all = before.count in omega arith);
      among = λ x is after. without.stays x (not-after_itself next.entry x position next.value next.key after)
          (before.among x is (after-later next.entry x position left.last next.value next.key next.lies.after after));
    }

pub few-keys_scanned : (t : Sight) (range left : KeyRange) (keys : List ℕ) → ScansKeys t range left keys → length keys ≤ length (entries_in t.heap.indexes 0)
few-keys_scanned t range left keys scans = let count = (keys_remain t range left keys scans).count in omega arith
