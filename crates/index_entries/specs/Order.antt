-- The order of entries: by value, then key, then page, then slot. An ordered index keeps entries with the same value apart by
-- the rest (PostgreSQL's src/backend/access/nbtree/README: a tuple's place breaks ties).
use Rattle.std.specs.Prelude.{◌≡◌, ◌↔◌, List, Contains}
use Rattle.std.specs.Ordering.{nat_cmp, int_cmp, ordering_then}
use Rattle.std.specs.declared.cmp.Ordering.{Ordering}
use Rattle.std.specs.List.{AllPairs}
use Rattle.std.specs.declared.cmp.Ordering.TheVariants.{Less}
use Rattle.index_entries.specs.declared.entry.Entry.{Entry}

abbrev pub comparison : Entry → Entry → Ordering
comparison a b =
    ordering_then (ordering_then (ordering_then (int_cmp a.value b.value)
    (nat_cmp a.key b.key)) (nat_cmp a.tid.page b.tid.page)) (nat_cmp a.tid.slot b.tid.slot)

abbrev pub EntryPrecedes : Entry → Entry → Type 0
EntryPrecedes a b = comparison a b ≡ Less

-- each entry precedes all later ones
abbrev pub IsAscending : List Entry → Type 0
IsAscending entries = AllPairs EntryPrecedes entries

-- The law of ordered sets: two ascending lists with the same entries are the same list.
abbrev pub MembersDetermine : Type 0
MembersDetermine = (xs ys : List Entry) → IsAscending xs → IsAscending ys → ((e : Entry) → Contains xs e ↔ Contains ys e) → xs ≡ ys
