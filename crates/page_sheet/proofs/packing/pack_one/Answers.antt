use Rattle.std.proofs.Common.{◌≡◌, ◌∙◌, ◌-◌, sym, ap, arith}
use Rattle.std.specs.Int.{next_multiple_of}
use Rattle.page_sheet.proofs.PackLemmas.{packed-normal, packed-none, version-fits}
use Rattle.page_sheet.proofs.packing.pack_one.Goals as goal

pub overflow_sub-top : goal.overflow_sub-top
overflow_sub-top c =
    let fits = version-fits c.args.old.now c.args.bytes.now c.args.count c.args.index c.args.upper c.in-Normal.extent c.requires.sound c.requires.within
    (sym c.pointer_at.ensures ∙ c.in-Normal.is) c.requires.room c.requires.packed in
    let size = fits.size in
    let rounded : c.next_multiple_of.result ≡ next_multiple_of c.in-Normal.extent.len 8 = c.next_multiple_of.ensures.value ∙ ap (λ n. next_multiple_of n 8) c.from.ensures in
    omega arith

pub move_version-requires-clause-low : goal.move_version-requires-clause-low
move_version-requires-clause-low c =
    let fits = version-fits c.args.old.now c.args.bytes.now c.args.count c.args.index c.args.upper c.in-Normal.extent c.requires.sound c.requires.within
    (sym c.pointer_at.ensures ∙ c.in-Normal.is) c.requires.room c.requires.packed in
    let low = fits.low in
    let within = c.requires.within in
    let rounded : c.next_multiple_of.result ≡ next_multiple_of c.in-Normal.extent.len 8 = c.next_multiple_of.ensures.value ∙ ap (λ n. next_multiple_of n 8) c.from.ensures in
    omega arith

pub returns-in-Normal : goal.returns-in-Normal
returns-in-Normal c =
    let fits = version-fits c.args.old.now c.args.bytes.now c.args.count c.args.index c.args.upper c.in-Normal.extent c.requires.sound c.requires.within
    (sym c.pointer_at.ensures ∙ c.in-Normal.is) c.requires.room c.requires.packed in
    let size = fits.size in
    let low = fits.low in
    let total = fits.total in
    let rounded : c.next_multiple_of.result ≡ next_multiple_of c.in-Normal.extent.len 8 = c.next_multiple_of.ensures.value ∙ ap (λ n. next_multiple_of n 8) c.from.ensures in
    packed-normal c.args.old.now c.args.bytes.now c.move_version.new.bytes c.args.count c.args.index c.args.upper (c.args.upper - c.next_multiple_of.result) c.in-Normal.extent
    c.requires.sound c.requires.within (sym c.pointer_at.ensures ∙ c.in-Normal.is) c.requires.packed (omega arith) (omega arith) (omega arith) c.move_version.ensures

pub returns-in_default : goal.returns-in_default
returns-in_default c = packed-none c.args.old.now c.args.bytes.now c.args.count c.args.index c.args.upper c.pointer_at.result c.requires.within c.pointer_at.ensures c.in_default.not-Normal c.requires.packed
