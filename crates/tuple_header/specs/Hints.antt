-- The marks of a header that are hints. They only save a look at the status of a transaction, and may be set at any time.
-- They say that the inserter is committed or aborted, each alone, and that a deleter is
-- (src/include/access/htup_details.h).
use Rattle.std.specs.Prelude.{ℕ, Bool, ◌==◌, ◌&&◌, if◌then◌else◌, bit_and, bit_or}
use Rattle.tuple_header.specs.declared.version.Header.{Header}
use Rattle.tuple_header.specs.Marks.{is_frozen}

-- the others: made by an update; both marks of the inserter together, frozen; and, where there is no deleter, that of none
abbrev pub lasting_marks : Header → ℕ
lasting_marks h =
    bit_or (bit_or (bit_and h.mask 0x2000) (if is_frozen h then 0x0300 else 0))
    (if h.xmax.0 == 0 then bit_and h.mask 0x0800 else 0)

abbrev pub same_but_hints : Header → Header → Bool
same_but_hints a b =
    a.xmin.0 == b.xmin.0 && a.xmax.0 == b.xmax.0 && (a.ctid.page == b.ctid.page && a.ctid.slot == b.ctid.slot)
    && a.mask2 == b.mask2 && lasting_marks a == lasting_marks b
