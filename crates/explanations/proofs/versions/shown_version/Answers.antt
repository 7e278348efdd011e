use Rattle.std.proofs.Common.{◌≡◌, ℕ, List, Some, None, sym, ap, ◌∙◌, subst, slice_get}
use Rattle.std.proofs.lemmas.Option.{slice_get-get_or}
use Rattle.hot_chain.specs.Chain.{has_aborted}
use Rattle.explanations.proofs.ChainLemmas.{chain-header, header-version}
use Rattle.explanations.proofs.versions.shown_version.Goals as goal

pub returns-in-Some-header : goal.returns-in-Some-header
returns-in-Some-header c =
    let got = c.in-Some.ensures.lookup in
    let at = subst (λ (xs : List ℕ). slice_get xs c.args.n ≡ Some c.in-Some.slot.now) c.as_slice.ensures.value
    (slice_get-get_or c.as_slice.result.now c.args.n c.in-Some.slot.now got.3.0 ∙ ap Some (sym got.1)) in
    let r = c.args.reader.now in
    let there = header-version c.args.page.now.slots c.in-Some.slot.now c.in-Some-header.header (sym c.header.ensures.value ∙ c.in-Some-header.is) in
    record {
      chain = c.chain-listed.result.items;
      is_chain = c.chain-listed.ensures;
      shown = (at, there r.statuses.now r.snapshot.now r.own.now.ids c.verdict_on.result c.verdict_on.ensures.verdict);
    }

pub returns-in-None-header : goal.returns-in-None-header
returns-in-None-header c =
    let got = c.in-Some.ensures.lookup in
    let at = subst (λ (xs : List ℕ). slice_get xs c.args.n ≡ Some c.in-Some.slot.now) c.as_slice.ensures.value
    (slice_get-get_or c.as_slice.result.now c.args.n c.in-Some.slot.now got.3.0 ∙ ap Some (sym got.1)) in
    absurd (chain-header (has_aborted c.args.reader.now.statuses.now) c.args.page.now.slots c.args.number c.args.n c.in-Some.slot.now c.chain-listed.result.items
    c.chain-listed.ensures at (sym c.header.ensures.value ∙ c.in-None-header.is))
