-- The spots of a transaction are noted, or forgotten again.
use Rattle.std.proofs.Common.{◌≡◌, ℕ, ◌+◌, ◌<◌, ◌&&◌, List, length, take, get_or, Option, Some, None, Bool, true, false, cond, nat_eq, refl, sym, ap, ◌∙◌, subst, inl, inr}
use Rattle.std.specs.Option.{is_some}
use Rattle.std.specs.BTreeMap.{BTreeMap}
use Rattle.std.proofs.lemmas.Bool.{cases_eq, ne_eqb}
use Rattle.history.specs.History.{Write}
use Rattle.keyed_history.specs.Spots.{noted_at}
use Rattle.keyed_history.specs.Places.{last_place, HaveNoted, HaveForgotten}
use Rattle.keyed_history.proofs.PlaceLemmas.{last_place-take, unplaced-take}

more : (a b : Bool) (i : ℕ) (here mid old : Option ℕ) → mid ≡ cond b here old → cond (a && b) (Some i) mid ≡ cond b (cond a (Some i) here) old
more true true i here mid old is = refl
more true false i here mid old is = is
more false true i here mid old is = is
more false false i here mid old is = is

pub noted_more : (old mid new : BTreeMap (ℕ × ℕ) ℕ) (n : ℕ) (writes : List Write) (i own_key : ℕ) (x : Write) → i < length writes → x ≡ get_or writes i x → own_key ≡ x.key → HaveNoted old mid n (take i writes)
    → ((k m : ℕ) → noted_at new k m ≡ cond (nat_eq own_key k && nat_eq n m) (Some i) (noted_at mid k m)) → HaveNoted old new n (take (i + 1) writes)
noted_more old mid new n writes i own_key x lt is own before says key m =
    says key m ∙ (ap (λ k. cond (nat_eq k key && nat_eq n m) (Some i) (noted_at mid key m)) own ∙ (more (nat_eq x.key key) (nat_eq n m) i (last_place (take i writes) key) (noted_at mid key m) (noted_at old key m) (before key m)
    ∙ ap (λ o. cond (nat_eq n m) o (noted_at old key m)) (sym (last_place-take writes i x key lt is))))

fewer : (a b : Bool) (i : ℕ) (o mid old : Option ℕ) → mid ≡ cond (b && is_some o) None old → cond (a && b) None mid ≡ cond (b && is_some (cond a (Some i) o)) None old
fewer true true i o mid old is = refl
fewer true false i o mid old is = is
fewer false true i o mid old is = is
fewer false false i o mid old is = is

pub forgotten_more : (old mid new : BTreeMap (ℕ × ℕ) ℕ) (n : ℕ) (writes : List Write) (i own_key : ℕ) (x : Write) → i < length writes → x ≡ get_or writes i x → own_key ≡ x.key → HaveForgotten old mid n (take i writes)
    → ((k m : ℕ) → noted_at new k m ≡ cond (nat_eq own_key k && nat_eq n m) None (noted_at mid k m)) → HaveForgotten old new n (take (i + 1) writes)
forgotten_more old mid new n writes i own_key x lt is own before says key m =
    says key m ∙ (ap (λ k. cond (nat_eq k key && nat_eq n m) None (noted_at mid key m)) own ∙ (fewer (nat_eq x.key key) (nat_eq n m) i (last_place (take i writes) key) (noted_at mid key m) (noted_at old key m) (before key m)
    ∙ ap (λ o. cond (nat_eq n m && is_some o) None (noted_at old key m)) (sym (last_place-take writes i x key lt is))))

back : (b : Bool) (all first old mid new : Option ℕ) → new ≡ cond (b && is_some all) None mid → mid ≡ cond b first old → (b ≡ true → old ≡ None) → (all ≡ None → first ≡ None) → new ≡ old
back false all first old mid new forgot noted none short = forgot ∙ noted
back true None first old mid new forgot noted none short = forgot ∙ (noted ∙ (short refl ∙ sym (none refl)))
back true (Some place) first old mid new forgot noted none short = forgot ∙ sym (none refl)

-- what was noted is forgotten
pub undone : (old mid new : BTreeMap (ℕ × ℕ) ℕ) (n : ℕ) (writes : List Write) (i : ℕ) → ((key : ℕ) → noted_at old key n ≡ None) → HaveNoted old mid n (take i writes) → HaveForgotten mid new n writes
    → (key m : ℕ) → noted_at new key m ≡ noted_at old key m
undone old mid new n writes i none notes forgets key m =
    back (nat_eq n m) (last_place writes key) (last_place (take i writes) key) (noted_at old key m) (noted_at mid key m) (noted_at new key m) (forgets key m) (notes key m)
    (λ is. elim (cases_eq n m) [
      | inl same ↦ subst (λ j. noted_at old key j ≡ None) same (none key)
      | inr ne ↦ absurd (let never : false ≡ true = sym (ne_eqb n m ne) ∙ is in cc)
    ])
    (unplaced-take writes i key)
