-- Keys are met on a scan over keys alone, key by key, and listed or written to places.
use Rattle.std.proofs.Common.{◌≡◌, ℕ, ◌+◌, ◌<◌, ◌≤◌, List, [], ◌∷◌, ◌++◌, length, set, get_or, Some, refl, sym, ap, ◌∙◌, subst, arith}
use Rattle.std.proofs.lemmas.List.{length-append}
use Rattle.tuple_header.specs.declared.row_place.RowPlace.{RowPlace}
use Rattle.index_lookup.specs.declared.index_scan.IndexPosition.{IndexPosition}
use Rattle.table_scans.specs.declared.progress.KeyRange.{KeyRange}
use Rattle.table_scans.specs.Scans.{Sight}
use Rattle.table_scans.specs.Keys.{IsNextKeyIn, NoKeyIsIn, ScansKeys, keys_begin, keys_go_on, MeetsSomeKey, TakesKeys, places_with_keys, PutsKeys}

-- so many keys are met
pub record HasMetKeys (t : Sight) (range left : KeyRange) (count : ℕ) (keys : List ℕ) : Type 0 where
  pub scans : ScansKeys t range left keys
  pub met : length keys ≡ count

pub no-key_met : (t : Sight) (range : KeyRange) → HasMetKeys t range range 0 []
no-key_met t range = record { scans = keys_begin; met = refl }

module _ (t : Sight) (range left : KeyRange) (count : ℕ) (keys : List ℕ) (h : HasMetKeys t range left count keys) where
  pub one-key_met : (position : IndexPosition) → IsNextKeyIn t left position → HasMetKeys t range (record left { last = Some position }) (count + 1) (keys ++ position.key ∷ [])
  one-key_met position next = record {
    scans = keys_go_on left keys position h.scans next;
    met = length-append keys (position.key ∷ []) ∙ ap (λ n. n + 1) h.met;
  }

  -- there is a key to hand out, whether or not memory is
  pub meets-next_key : (position : IndexPosition) → IsNextKeyIn t left position → MeetsSomeKey t range
  meets-next_key position next =
      let long = length-append keys (position.key ∷ []) in
      (record left { last = Some position }, keys ++ position.key ∷ [], keys_go_on left keys position h.scans next, omega arith)

  -- none is left
  pub all-keys_met : (most : ℕ) → count ≤ most → NoKeyIsIn t left → TakesKeys t range left most keys
  all-keys_met most within none = record {
    scans = h.scans;
    at_most = (let met = h.met in omega arith);
    all = λ fewer. none;
  }

  -- no more were asked for
  pub full-keys_met : (most : ℕ) → count ≡ most → TakesKeys t range left most keys
  full-keys_met most full = record {
    scans = h.scans;
    at_most = (let met = h.met in omega arith);
    all = λ fewer. absurd (let met = h.met in omega arith);
  }

-- where none is met, all is left
no-key_scanned : {t : Sight} {range left : KeyRange} {keys : List ℕ} → ScansKeys t range left keys → length keys ≡ 0 → left ≡ range
no-key_scanned keys_begin none = refl
no-key_scanned (keys_go_on before keys position scans next) none = absurd (let long = length-append keys (position.key ∷ []) in omega (arith, none, long))

-- None is met: none is in the whole range.
pub no-key_taken : (t : Sight) (range left : KeyRange) (most : ℕ) (keys : List ℕ) → TakesKeys t range left most keys → length keys ≡ 0 → 0 < most → NoKeyIsIn t range
no-key_taken t range left most keys h none some = subst (NoKeyIsIn t) (no-key_scanned h.scans none) (h.all (omega arith))

-- In places.

-- a place once a key is written to it
abbrev place_with_key : ℕ → RowPlace → RowPlace
place_with_key key place = record place { key = key }

-- the next key is written to the place behind them
keyed-push : (keys : List ℕ) (places : List RowPlace) (key : ℕ) (d : RowPlace) → length keys < length places
    → set (places_with_keys keys places) (length keys) (place_with_key key (get_or (places_with_keys keys places) (length keys) d)) ≡ places_with_keys (keys ++ key ∷ []) places
keyed-push keys [] key d within = absurd (omega arith)
keyed-push [] (first ∷ places) key d within = refl
keyed-push (k ∷ keys) (first ∷ places) key d within = ap (λ ps. place_with_key k first ∷ ps) (keyed-push keys places key d (omega arith))

-- so many keys were met, and written to the first places
pub record HasPutKeys (t : Sight) (range left : KeyRange) (count : ℕ) (places after : List RowPlace) : Type 0 where
  pub keys : List ℕ
  pub written : after ≡ places_with_keys keys places
  pub met : HasMetKeys t range left count keys

pub no-key_put : (t : Sight) (range : KeyRange) (places : List RowPlace) → HasPutKeys t range range 0 places places
no-key_put t range places = record { keys = []; written = refl; met = no-key_met t range }

module _ (t : Sight) (range left : KeyRange) (count : ℕ) (places after : List RowPlace) (h : HasPutKeys t range left count places after) where
  pub one-key_put : (position : IndexPosition) (d : RowPlace) → IsNextKeyIn t left position → count < length places
      → HasPutKeys t range (record left { last = Some position }) (count + 1) places (set after count (place_with_key position.key (get_or after count d)))
  one-key_put position d next room = record {
    keys = h.keys ++ position.key ∷ [];
    written =
        let met : length h.keys ≡ count = h.met.met in
        let within : length h.keys < length places = omega arith in
        ap (λ ps. set ps count (place_with_key position.key (get_or ps count d))) h.written
        ∙ (ap (λ n. set (places_with_keys h.keys places) n (place_with_key position.key (get_or (places_with_keys h.keys places) n d))) (sym met)
        ∙ keyed-push h.keys places position.key d within);
    met = one-key_met t range left count h.keys h.met position next;
  }

  pub all-keys_put : count ≤ length places → NoKeyIsIn t left → PutsKeys t range places count left after
  all-keys_put within none = record { keys = h.keys; number = h.met.met; written = h.written; takes = all-keys_met t range left count h.keys h.met (length places) within none }

  pub full-keys_put : count ≡ length places → PutsKeys t range places count left after
  full-keys_put full = record { keys = h.keys; number = h.met.met; written = h.written; takes = full-keys_met t range left count h.keys h.met (length places) full }
