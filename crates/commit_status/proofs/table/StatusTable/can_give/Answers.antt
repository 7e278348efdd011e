use Rattle.std.proofs.Common.{◌≡◌, ◌∙◌, ℕ, ◌+◌, ◌-◌, ◌<◌, IsTrue, length, nat_lt, subst, arith}
use Rattle.std.proofs.lemmas.Bool.Decides.{nat_tests}
use Rattle.commit_status.specs.Window.{Window}
use Rattle.commit_status.specs.Changes.{CanGive}
use Rattle.commit_status.proofs.Tables.{can-give, give-can}
use Rattle.commit_status.proofs.table.StatusTable.can_give.Goals as goal

true-lt : (a b : ℕ) → IsTrue (nat_lt a b) → a < b
true-lt a b h = grind (arith, nat_tests)

lt-true : (a b : ℕ) → a < b → IsTrue (nat_lt a b)
lt-true a b h = grind (arith, nat_tests)

pub returns : goal.returns
returns c =
    let w = c.self.invariant.window in
    let n = c.args.n in
    let last = c.len.result + c.from.result - 1 in
    let pos : 0 < n = omega arith in
    let count : c.len.result ≡ length c.self.inside.entries.items = c.len.ensures in
    let size : c.from.result ≡ n = c.from.ensures in
    let total : last + 1 ≡ length c.self.inside.entries.items + n = omega arith in
    let to = can-give c.self.inside.first.0 c.self.inside.stop_age (length c.self.inside.entries.items) n last c.age_at.result
    w.normal w.fits w.limit w.short pos total c.age_at.ensures.before c.age_at.ensures.started_over in
    let back = give-can c.self.inside.first.0 c.self.inside.stop_age (length c.self.inside.entries.items) n last c.age_at.result
    w.normal w.fits w.limit w.short pos total c.age_at.ensures.before c.age_at.ensures.started_over in
    let age : c.from-2.result ≡ c.self.inside.stop_age = c.from-2.ensures in
    let P : Window → Type 0 = λ v. (IsTrue (nat_lt c.age_at.result c.from-2.result) → CanGive v n) × (CanGive v n → IsTrue (nat_lt c.age_at.result c.from-2.result)) in
    subst P c.self.view_is (
      λ h. to (let l = true-lt c.age_at.result c.from-2.result h in omega arith),
      λ h. lt-true c.age_at.result c.from-2.result (let l = back h in omega arith),
    )
