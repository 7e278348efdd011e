-- What a write does to the entries of one index, for the crates above.
use Rattle.std.proofs.Common.{◌≡◌, ℕ, ◌∷◌, List, [], Option, None, refl, sym, ap}
use Rattle.std.specs.Prelude.{unwrap_or, option_map, slice_index_or}
use Rattle.xid_circle.specs.declared.Xid.{Xid}
use Rattle.table_indexes.specs.Indexes.{IndexesView, entries_at, entries_in, since_at, SameEntries}

-- The same entries.

pub same-in : (indexes indexes' : IndexesView) (n : ℕ) → SameEntries indexes indexes' → entries_in indexes' n ≡ entries_in indexes n
same-in indexes indexes' n same = ap (λ o. unwrap_or o []) (same.entries n)

pub same-entries : (indexes indexes' : IndexesView) → indexes' ≡ indexes → SameEntries indexes indexes'
same-entries indexes indexes' same = record {
  entries = λ n. ap (λ (is : IndexesView). entries_at is n) same;
  since = λ n. ap (λ (is : IndexesView). since_at is n) same;
}

pub same-since : (since since' : List (Option Xid)) → since' ≡ since → (n : ℕ) → option_map (λ (x : Xid). x.0) (slice_index_or (None ∷ since') n None)
    ≡ option_map (λ (x : Xid). x.0) (slice_index_or (None ∷ since) n None)
same-since since since' same n = ap (λ (xs : List (Option Xid)). option_map (λ (x : Xid). x.0) (slice_index_or (None ∷ xs) n None)) same

pub entries-kept : (indexes : IndexesView) → SameEntries indexes indexes
entries-kept indexes = record { entries = λ n. refl; since = λ n. refl }

pub entries-back : (indexes indexes' : IndexesView) → SameEntries indexes indexes' → SameEntries indexes' indexes
entries-back indexes indexes' same = record { entries = λ n. sym (same.entries n); since = λ n. sym (same.since n) }
