-- The order of entries is total, and ascending lists are determined by their members.
use Rattle.std.proofs.Common.{◌≡◌, ◌∙◌, ℕ, suc, ⊎_elim, List, [], ◌∷◌, sym, refl, subst, arith, Contains}
use Rattle.std.specs.Cmp.{IsTotalOrder}
use Rattle.std.specs.Ordering.{nat_cmp}
use Rattle.std.specs.declared.cmp.Ordering.TheVariants.{Equal}
use Rattle.std.proofs.lemmas.Cmp.{then_total, on_total, nat_cmp_total, int_cmp_total, ranked, int_ranked, tied_itself}
use Rattle.xid_circle.proofs.Members.{Contains-first, Contains-rest, Contains-cases, Contains-none}
use Rattle.dead_places.proofs.PlaceLemmas.{equal_both}
use Rattle.index_entries.specs.declared.entry.Entry.{Entry}
use Rattle.index_entries.specs.Order.{comparison, EntryPrecedes, IsAscending, MembersDetermine}

pub comparison_total : IsTotalOrder comparison
comparison_total =
    then_total (then_total (then_total (on_total (λ (e : Entry). e.value) int_cmp_total)
    (on_total (λ (e : Entry). e.key) nat_cmp_total)) (on_total (λ (e : Entry). e.tid.page) nat_cmp_total)) (on_total (λ (e : Entry). e.tid.slot) nat_cmp_total)

pub not_before_itself : (a : Entry) → ¬ EntryPrecedes a a
not_before_itself a h = absurd (let e = tied_itself comparison_total a in cc)

pub Precedes-trans : (a b c : Entry) → EntryPrecedes a b → EntryPrecedes b c → EntryPrecedes a c
Precedes-trans a b c = comparison_total.trans a b c

pub Precedes-not_back : (a b : Entry) → EntryPrecedes a b → ¬ EntryPrecedes b a
Precedes-not_back a b h back = not_before_itself a (Precedes-trans a b a h back)

nat_tied : (x y : ℕ) → nat_cmp x y ≡ Equal → x ≡ y
nat_tied x y e = ranked x y Equal (sym e)

pub same-from_tied : (a b : Entry) → comparison a b ≡ Equal → a ≡ b
same-from_tied a b e =
    let slot = equal_both _ _ e in
    let page = equal_both _ _ slot.0 in
    let key = equal_both _ _ page.0 in
    let v = int_ranked a.value b.value Equal (sym key.0) in
    let k = nat_tied a.key b.key key.1 in
    let p = nat_tied a.tid.page b.tid.page page.1 in
    let s = nat_tied a.tid.slot b.tid.slot slot.1 in
    rw (v, k, p, s) refl

-- Ascending lists.

pub ascending-tail : (x : Entry) (xs : List Entry) → IsAscending (x ∷ xs) → IsAscending xs
ascending-tail x xs up i j d lt within = up (suc i) (suc j) d (omega arith) (omega arith)

pub ascending-head : (x e : Entry) (xs : List Entry) → IsAscending (x ∷ xs) → Contains xs e → EntryPrecedes x e
ascending-head x e xs up (k, within, is) = subst (λ y. EntryPrecedes x y) is (up 0 (suc k) e (omega arith) (omega arith))

-- an entry of one list is in the rest of the other, where both begin with the same
in_rest : (x y e : Entry) (xs ys : List Entry) → IsAscending (x ∷ xs) → x ≡ y → Contains xs e → Contains (y ∷ ys) e → Contains ys e
in_rest x y e xs ys up same there h =
    ⊎_elim (λ first. absurd (not_before_itself x (subst (λ z. EntryPrecedes x z) (sym first ∙ sym same) (ascending-head x e xs up there)))) (λ rest. rest) (Contains-cases y e ys h)

same_first : (x y : Entry) (xs ys : List Entry) → IsAscending (x ∷ xs) → IsAscending (y ∷ ys) → Contains (y ∷ ys) x → Contains (x ∷ xs) y → x ≡ y
same_first x y xs ys up up' x_there y_there =
    ⊎_elim (λ same. sym same) (λ x_later. ⊎_elim (λ same. same)
    (λ y_later. absurd (Precedes-not_back x y (ascending-head x y xs up y_later) (ascending-head y x ys up' x_later)))
    (Contains-cases x y xs y_there)) (Contains-cases y x ys x_there)

pub determined : MembersDetermine
determined [] [] up up' same = refl
determined [] (y ∷ ys) up up' same = absurd (Contains-none y ((same y).1 (Contains-first y ys)))
determined (x ∷ xs) [] up up' same = absurd (Contains-none x ((same x).0 (Contains-first x xs)))
determined (x ∷ xs) (y ∷ ys) up up' same =
    let first = same_first x y xs ys up up' ((same x).0 (Contains-first x xs)) ((same y).1 (Contains-first y ys)) in
    let rest = determined xs ys (ascending-tail x xs up) (ascending-tail y ys up')
    (λ e. (
      λ h. in_rest x y e xs ys up first h ((same e).0 (Contains-rest x e xs h)),
      λ h. in_rest y x e ys xs up' (sym first) h ((same e).1 (Contains-rest y e ys h)),
    )) in
    rw (first, rest) refl
