use Rattle.std.proofs.Common.{◌≡◌, ℕ, ◌≤◌, ◌+◌, ◌-◌, ◌*◌, ◌∙◌, ◌++◌, length, take, drop, sym, subst, refl, arith}
use borrow.Rule.Slice.PartMut.{put_mid}
use Rattle.tuple_header.specs.Version.{Version, size_of, rounded_size_of}
use Rattle.tuple_header.specs.Layout.{with_bytes, encoding}
use Rattle.tuple_header.proofs.Headers.{length-encoding}
use Rattle.tuple_header.proofs.Writes.{with_bytes-put}
use Rattle.page_layout.specs.declared.pointer.Extent.{Extent}
use Rattle.page_layout.specs.Layout.{upper_in}
use Rattle.page_sheet.proofs.Added.{IsAdded, added}
use Rattle.page_sheet.proofs.sheet.put_below.Goals as goal

whole : (c : goal.After-put_pointer) → IsAdded c.args.bytes.now c.put_pointer.new.bytes c.args.count c.args.index
    (record { from = c.from.result - c.row_size.result; len = 66 + c.len.result }) (record { header = c.args.header.now; row = c.args.row.now })
whole c =
    let a = c.args.bytes.now in
    let v : Version = record { header = c.args.header.now; row = c.args.row.now } in
    let e : Extent = record { from = c.from.result - c.row_size.result; len = 66 + c.len.result } in
    let value = c.len.ensures.value in
    let len_is : e.len ≡ size_of c.args.row.now = omega arith in
    let upper : c.from.result ≡ upper_in a = c.from.ensures ∙ c.u16_at.ensures in
    let size = c.row_size.ensures.value in
    let enough = c.requires.room in
    let room : e.from + rounded_size_of c.args.row.now ≡ upper_in a = omega arith in
    let gap : 24 + 4 * c.args.count ≤ e.from = omega arith in
    let fits = c.put_version.ensures.version in
    let low : e.from ≤ length a = omega (arith, c.requires.sound.long, c.requires.sound.upper) in
    let out = c.put_version.new.out in
    let Put : ℕ → Type 0 = λ n. out ≡ encoding v ++ drop (size_of v.row) (take (n - e.from) (drop e.from a)) → put_mid e.from (n - e.from) a out ≡ with_bytes e.from (encoding v) a in
    let written = subst Put c.requires.sound.long (with_bytes-put e.from (size_of v.row) (encoding v) a out (length-encoding v fits) low) c.put_version.ensures.bytes in
    added a (put_mid e.from (8192 - e.from) a out) c.put_u16.new.bytes c.put_pointer.new.bytes c.args.count c.args.index e v c.requires.sound c.requires.there gap room len_is
    fits written c.put_u16.ensures c.put_pointer.ensures

pub returns-clause-sound : goal.returns-clause-sound
returns-clause-sound c = (whole c).sound

pub returns-clause-slots : goal.returns-clause-slots
returns-clause-slots c = (whole c).slots

pub returns-clause-upper : goal.returns-clause-upper
returns-clause-upper c =
    let upper : c.from.result ≡ upper_in c.args.bytes.now = c.from.ensures ∙ c.u16_at.ensures in
    let size = c.row_size.ensures.value in
    let enough = c.requires.room in
    let low = (whole c).upper in
    omega arith

pub returns-clause-here : goal.returns-clause-here
returns-clause-here c =
    let value = c.len.ensures.value in
    let len_is : 66 + c.len.result ≡ size_of c.args.row.now = omega arith in
    let from_is : c.from.result - c.row_size.result ≡ upper_in c.put_pointer.new.bytes = sym (whole c).upper in
    (whole c).here ∙ rw (from_is, len_is) refl

pub returns-clause-places : goal.returns-clause-places
returns-clause-places c = (whole c).others
