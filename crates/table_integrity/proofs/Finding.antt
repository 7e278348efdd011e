-- What is found at each place after one version comes, or becomes another, or some go.
use Rattle.std.proofs.Common.{◌≡◌, ◌≢◌, ◌⊎◌, ◌↔◌, Option, Some, sym, ap, ◌∙◌, subst, ⊎_elim, inl, inr}
use Rattle.std.proofs.lemmas.Option.{none-some, same_Some}
use Rattle.xid_circle.specs.declared.Tid.{Tid}
use Rattle.xid_circle.proofs.Tids.{cases-tid}
use Rattle.tuple_header.specs.Version.{Version}
use Rattle.tuple_header.specs.declared.version.Header.{Header}
use Rattle.tuple_header.specs.declared.version.Row.{Row}
use Rattle.table_integrity.specs.Readers.{FindsAt}
use Rattle.table_integrity.proofs.Places.{AddsAt, AltersAt}

pub both : {A B C : Type 0} → (A ↔ B) → (B ↔ C) → A ↔ C
both f g = (λ a. g.0 (f.0 a), λ c. f.1 (g.1 c))

-- the same versions are seen by both
abbrev pub SameSight : (Tid → Option Version) → (Header → Type 0) → (Header → Type 0) → Type 0
SameSight store seen seen' = (p : Tid) (t : Version) → store p ≡ Some t → seen t.header ↔ seen' t.header

module _ (store store' : Tid → Option Version) (seen seen' : Header → Type 0) (same : SameSight store seen seen') where
  kept-at : (p : Tid) (r : Row) → store' p ≡ store p → FindsAt seen store p r → FindsAt seen' store' p r
  kept-at p r is f = record { version = f.version; there = is ∙ f.there; is_seen = (same p f.version f.there).0 f.is_seen; of_row = f.of_row }

  back-at : (p : Tid) (r : Row) → store' p ≡ store p → FindsAt seen' store' p r → FindsAt seen store p r
  back-at p r is f = let was = sym is ∙ f.there in record { version = f.version; there = was; is_seen = (same p f.version was).1 f.is_seen; of_row = f.of_row }

  -- A version comes.
  module _ (q : Tid) (new : Version) (adds : AddsAt store store' q new) where
    not-here : (p : Tid) (r : Row) → FindsAt seen store p r → p ≢ q
    not-here p r f e = none-some f.version (sym adds.unused ∙ (ap store (sym e) ∙ f.there))

    is-new : (p : Tid) (t : Version) → p ≡ q → store' p ≡ Some t → new ≡ t
    is-new p t e at = same_Some new t (sym adds.here ∙ (ap store' (sym e) ∙ at))

    -- it is not seen
    pub adds-unseen : ¬ seen' new.header → (p : Tid) (r : Row) → FindsAt seen store p r ↔ FindsAt seen' store' p r
    adds-unseen unseen p r = (
      (λ f. kept-at p r (adds.others p (not-here p r f)) f),
      (λ f. back-at p r (adds.others p (λ e. unseen (subst (λ (v : Version). seen' v.header) (sym (is-new p f.version e f.there)) f.is_seen))) f),
    )

    -- it is seen
    pub adds-seen : seen' new.header → (p : Tid) (r : Row) → FindsAt seen' store' p r ↔ (FindsAt seen store p r ⊎ ((p ≡ q) × (r ≡ new.row)))
    adds-seen has p r = (
      (λ f. ⊎_elim
          (λ e. inr (e, sym f.of_row ∙ ap (λ (v : Version). v.row) (sym (is-new p f.version e f.there))))
          (λ ne. inl (back-at p r (adds.others p ne) f))
          (cases-tid p q)),
      (λ either. ⊎_elim
          (λ f. kept-at p r (adds.others p (not-here p r f)) f)
          (λ here. record { version = new; there = ap store' here.0 ∙ adds.here; is_seen = has; of_row = sym here.1 })
          either),
    )

  -- A version becomes another.
  module _ (place : Tid) (old new : Version) (alters : AltersAt store store' place old new) where
    -- it is seen as it was
    pub alters-same : new.row ≡ old.row → (seen old.header ↔ seen' new.header) → (p : Tid) (r : Row) → FindsAt seen store p r ↔ FindsAt seen' store' p r
    alters-same row sight p r = (
      (λ f. ⊎_elim
          (λ e. let is : old ≡ f.version = same_Some old f.version (sym alters.before ∙ (ap store (sym e) ∙ f.there)) in
          record {
            version = new;
            there = ap store' e ∙ alters.here;
            is_seen = sight.0 (subst (λ (v : Version). seen v.header) (sym is) f.is_seen);
            of_row = row ∙ ap (λ (v : Version). v.row) is ∙ f.of_row;
          })
          (λ ne. kept-at p r (alters.others p ne) f)
          (cases-tid p place)),
      (λ f. ⊎_elim
          (λ e. let is : new ≡ f.version = same_Some new f.version (sym alters.here ∙ (ap store' (sym e) ∙ f.there)) in
          record {
            version = old;
            there = ap store e ∙ alters.before;
            is_seen = sight.1 (subst (λ (v : Version). seen' v.header) (sym is) f.is_seen);
            of_row = sym row ∙ ap (λ (v : Version). v.row) is ∙ f.of_row;
          })
          (λ ne. back-at p r (alters.others p ne) f)
          (cases-tid p place)),
    )

    -- it is seen no more
    pub alters-hidden : ¬ seen' new.header → (p : Tid) (r : Row) → FindsAt seen' store' p r ↔ (FindsAt seen store p r × (p ≢ place))
    alters-hidden unseen p r = (
      (λ f. let ne = away p r f in (back-at p r (alters.others p ne) f, ne)),
      (λ pair. kept-at p r (alters.others p pair.1) pair.0),
    )
      where
        away : (p : Tid) (r : Row) → FindsAt seen' store' p r → p ≢ place
        away p r f e =
            let is : new ≡ f.version = same_Some new f.version (sym alters.here ∙ (ap store' (sym e) ∙ f.there)) in
            unseen (subst (λ (v : Version). seen' v.header) (sym is) f.is_seen)
