use Rattle.std.proofs.Common.{◌≡◌, ◌∙◌, ◌+◌, ◌-◌, ℕ, List, length, take, drop, ap, arith, length-take, length-drop, replicate}
use Rattle.std.proofs.lemmas.List.{length-replicate}
use Rattle.tuple_header.specs.Layout.{with_bytes}
use Rattle.page_layout.proofs.RaiseLemmas.{block-back}
use Rattle.page_layout.proofs.parts.slide.Goals as goal

pub returns : goal.returns
returns c =
    let n = c.args.top - c.args.low in
    let block = take n (drop c.args.low c.args.bytes.now) in
    let zeros : List ℕ = replicate 8192 0 in
    let whole = c.requires.whole in
    let order = c.requires.order in
    let room = c.requires.room in
    let size : length block ≡ n = rw (length-take, length-drop) (omega arith) in
    let out : length zeros ≡ 8192 = length-replicate {A = ℕ} 8192 0 in
    let first : c.put_bytes.new.out ≡ with_bytes 0 block zeros = c.put_bytes.ensures in
    c.put_bytes-2.ensures
    ∙ ap (λ (xs : List ℕ). with_bytes (c.args.low + c.args.by) xs c.args.bytes.now) (ap (take n) first ∙ block-back n block zeros size (omega arith))
