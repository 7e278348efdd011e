-- The own ids of the open sessions after one session changed.
use Rattle.std.proofs.Common.{◌≡◌, ◌≢◌, ℕ, ◌<◌, List, [], ◌∷◌, ◌++◌, length, set, Option, Some, None, refl, sym, ap, ◌∙◌, subst, ◌⊎◌, inl, inr}
use Rattle.std.specs.Prelude.{Contains, IsSome}
use Rattle.std.specs.Option.{option_flatten}
use Rattle.std.proofs.lemmas.Bool.{cases_eq}
use Rattle.std.proofs.lemmas.Option.{same_Some, none-some}
use Rattle.std.proofs.lemmas.List.Elements.{Contains-append_left, Contains-append_right, Contains-append_cases}
use Rattle.xid_circle.proofs.Members.{Contains-first, Contains-rest, Contains-none}
use Rattle.commit_status.specs.declared.status.Status.{Status}
use Rattle.commit_status.specs.declared.status.Status.TheVariants.{InProgress}
use Rattle.commit_status.specs.Window.{Window, IsWindow, IsActive, place_in}
use Rattle.commit_status.specs.Changes.{Finishes}
use Rattle.commit_status.proofs.Finishing.{finishes-active_other}
use Rattle.snapshot.specs.Own.{AreDistinct}
use Rattle.snapshot.proofs.Levels.{distinct-prefix, distinct-after}
use Rattle.write_ids.specs.Ids.{GivesUnder}
use Rattle.write_ids.proofs.GivenIds.{given-active_old, given-active, given-active_cases, given-new, given-distinct}
use Rattle.history.proofs.Places.{slice_get-set_same, slice_get-set_other}
use Rattle.sessions.specs.declared.session.Session.{Session}
use Rattle.session_steps.specs.Keeps.{OwnIdsKeep}
use Rattle.sessions.specs.Places.{open_at}
use Rattle.sessions.proofs.PlaceLemmas.{place-within}

pub open-within : (xs : List (Option Session)) (s : ℕ) (e : Session) → open_at xs s ≡ Some e → s < length xs
open-within xs s e at = place-within xs s (λ none. none-some e (sym none ∙ at))

pub open-set_same : (xs : List (Option Session)) (s : ℕ) (v : Option Session) → s < length xs → open_at (set xs s v) s ≡ v
open-set_same xs s v within = ap option_flatten (slice_get-set_same xs s v within)

pub open-set_other : (xs : List (Option Session)) (s o : ℕ) (v : Option Session) → o ≢ s → open_at (set xs s v) o ≡ open_at xs o
open-set_other xs s o v ne = ap option_flatten (slice_get-set_other xs s o v ne)

pub open-set_cases : (xs : List (Option Session)) (s o : ℕ) (v : Option Session) (e : Session) → s < length xs → open_at (set xs s v) o ≡ Some e
    → ((o ≡ s) × (v ≡ Some e)) ⊎ ((o ≢ s) × (open_at xs o ≡ Some e))
open-set_cases xs s o v e within at = elim (cases_eq o s) [
  | inl same ↦ inl (same, sym (open-set_same xs s v within) ∙ (ap (open_at (set xs s v)) (sym same) ∙ at))
  | inr ne ↦ inr (ne, sym (open-set_other xs s o v ne) ∙ at)
]

-- what is in progress once ids are finished was so before, and is none of these
finishes-active_cases : (w v : Window) (ids : List ℕ) (status : Status) (x : ℕ) → Finishes w v ids status → status ≢ InProgress → IsActive v x → (¬ Contains ids x) × IsActive w x
finishes-active_cases w v ids status x f final active = elim (f.each x) [
  | inl mine ↦ absurd (final (sym mine.2 ∙ active.unfinished))
  | inr other ↦ (
    other.0,
    record {
      is_given = subst (λ first. IsSome (place_in first (length w.entries) x)) f.first (subst (λ n. IsSome (place_in v.first n x)) f.count active.is_given);
      unfinished = sym other.1 ∙ active.unfinished;
    },
  )
]

-- what is in one list alone, each once, is once in both together
pub distinct-both : (ids xs : List ℕ) → AreDistinct ids → AreDistinct xs → ((x : ℕ) → Contains xs x → ¬ Contains ids x) → AreDistinct (ids ++ xs)
distinct-both [] xs one two apart = two
distinct-both (y ∷ ids) xs one two apart = (
  λ among. elim (Contains-append_cases ids xs y among) [ inl here ↦ one.0 here | inr there ↦ apart y there (Contains-first y ids) ],
  distinct-both ids xs one.1 two (λ x there here. apart x there (Contains-rest y x ids here)),
)

-- the session in one place has the id, or one in another
abbrev OwnedIn : List (Option Session) → ℕ → Option Session → ℕ → Type 0
OwnedIn xs s now x =
    ((e : Session) × (now ≡ Some e) × Contains e.own.ids x) ⊎ ((o : ℕ) × (e : Session) × (o ≢ s) × (open_at xs o ≡ Some e) × Contains e.own.ids x)

-- an id of an open session is that one's in this place, or one's in another
own-cases : (xs : List (Option Session)) (s x : ℕ) (o : Option Session) → open_at xs s ≡ o → (p : ℕ) × (e : Session) × (open_at xs p ≡ Some e) × Contains e.own.ids x → OwnedIn xs s o x
own-cases xs s x o at owned = elim (cases_eq owned.0 s) [
  | inl same ↦ inl (owned.1, sym at ∙ (ap (open_at xs) (sym same) ∙ owned.2), owned.3)
  | inr ne ↦ inr (owned.0, owned.1, ne, owned.2, owned.3)
]

-- the session at one place changes: its ids are in progress, and nobody else's
keep-set : (xs : List (Option Session)) (w v : Window) (s : ℕ) (now : Option Session) → s < length xs → OwnIdsKeep xs w
    → ((o : ℕ) (e : Session) (x : ℕ) → o ≢ s → open_at xs o ≡ Some e → Contains e.own.ids x → IsActive v x)
    → ((e : Session) (x : ℕ) → now ≡ Some e → Contains e.own.ids x → IsActive v x)
    → ((e : Session) → now ≡ Some e → AreDistinct e.own.ids)
    → ((o : ℕ) (e f : Session) (x : ℕ) → o ≢ s → now ≡ Some e → open_at xs o ≡ Some f → Contains e.own.ids x → Contains f.own.ids x → ⊥)
    → ((x : ℕ) → IsActive v x → OwnedIn xs s now x)
    → OwnIdsKeep (set xs s now) v
keep-set xs w v s now within h others mine once alone owned = record {
  active = λ o e x at own. elim (open-set_cases xs s o now e within at) [
    | inl same ↦ mine e x same.1 own
    | inr other ↦ others o e x other.0 other.1 own
  ];
  distinct = λ o e at. elim (open-set_cases xs s o now e within at) [
    | inl same ↦ once e same.1
    | inr other ↦ h.distinct o e other.1
  ];
  apart = λ o p e f x at bt own own'. elim (open-set_cases xs s o now e within at) [
    | inl same ↦ elim (open-set_cases xs s p now f within bt) [
      | inl same' ↦ same.0 ∙ sym same'.0
      | inr other ↦ absurd (alone p e f x other.0 same.1 other.1 own own')
    ]
    | inr other ↦ elim (open-set_cases xs s p now f within bt) [
      | inl same ↦ absurd (alone o f e x other.0 same.1 other.1 own' own)
      | inr other' ↦ h.apart o p e f x other.1 other'.1 own own'
    ]
  ];
  owned = λ x active. elim (owned x active) [
    | inl mine ↦ (s, mine.0, open-set_same xs s now within ∙ mine.1, mine.2)
    | inr other ↦ (other.0, other.1, open-set_other xs s other.0 now other.2 ∙ other.3, other.4)
  ];
}

-- a session is opened, and has no ids
pub keep-open : (xs : List (Option Session)) (w : Window) (s : ℕ) (e : Session) → s < length xs → open_at xs s ≡ None → e.own.ids ≡ [] → OwnIdsKeep xs w → OwnIdsKeep (set xs s (Some e)) w
keep-open xs w s e within idle none h = keep-set xs w w s (Some e) within h
    (λ o f x ne at own. h.active o f x at own)
    (λ f x is own. absurd (empty f x is own))
    (λ f is. subst AreDistinct (sym (ap (λ (f : Session). f.own.ids) (sym (same_Some e f is)) ∙ none)) tt)
    (λ o f g x ne is at own own'. empty f x is own)
    (λ x active. elim (own-cases xs s x None idle (h.owned x active)) [ inl mine ↦ absurd (none-some mine.0 mine.1) | inr other ↦ inr other ])
  where
    empty : (f : Session) (x : ℕ) → Some e ≡ Some f → ¬ Contains f.own.ids x
    empty f x is own = Contains-none x (subst (λ ids. Contains ids x) (ap (λ (f : Session). f.own.ids) (sym (same_Some e f is)) ∙ none) own)

-- a session is closed, and its ids are finished
pub keep-close : (xs : List (Option Session)) (w v : Window) (s : ℕ) (e : Session) (status : Status) → open_at xs s ≡ Some e → status ≢ InProgress
    → Finishes w v e.own.ids status → OwnIdsKeep xs w → OwnIdsKeep (set xs s None) v
keep-close xs w v s e status at final finishes h = keep-set xs w v s None (open-within xs s e at) h
    (λ o f x ne bt own. finishes-active_other w v e.own.ids status x finishes (λ mine. ne (h.apart o s f e x bt at own mine)) (h.active o f x bt own))
    (λ f x is own. absurd (none-some f is))
    (λ f is. absurd (none-some f is))
    (λ o f g x ne is bt own own'. none-some f is)
    (λ x active. let was = finishes-active_cases w v e.own.ids status x finishes final active in
    elim (own-cases xs s x (Some e) at (h.owned x was.1)) [
      | inl mine ↦ absurd (was.0 (subst (λ (f : Session). Contains f.own.ids x) (sym (same_Some e mine.0 mine.1)) mine.2))
      | inr other ↦ inr other
    ])

-- no session is there
pub keep-idle : (xs : List (Option Session)) (w : Window) (s : ℕ) → s < length xs → open_at xs s ≡ None → OwnIdsKeep xs w → OwnIdsKeep (set xs s None) w
keep-idle xs w s within idle h = keep-set xs w w s None within h
    (λ o f x ne bt own. h.active o f x bt own)
    (λ f x is own. absurd (none-some f is))
    (λ f is. absurd (none-some f is))
    (λ o f g x ne is bt own own'. none-some f is)
    (λ x active. own-cases xs s x None idle (h.owned x active))

-- the session's ids stay as they are
pub keep-same : (xs : List (Option Session)) (w : Window) (s : ℕ) (e e' : Session) → open_at xs s ≡ Some e → e'.own.ids ≡ e.own.ids → OwnIdsKeep xs w → OwnIdsKeep (set xs s (Some e')) w
keep-same xs w s e e' at same h = keep-set xs w w s (Some e') (open-within xs s e at) h
    (λ o f x ne bt own. h.active o f x bt own)
    (λ f x is own. h.active s e x at (mine f x is own))
    (λ f is. subst AreDistinct (sym (ap (λ (f : Session). f.own.ids) (sym (same_Some e' f is)) ∙ same)) (h.distinct s e at))
    (λ o f g x ne is bt own own'. ne (h.apart o s g e x bt at own' (mine f x is own)))
    (λ x active. elim (own-cases xs s x (Some e) at (h.owned x active)) [
      | inl was ↦ inl (e', refl, subst (λ ids. Contains ids x) (ap (λ (f : Session). f.own.ids) (sym (same_Some e was.0 was.1)) ∙ sym same) was.2)
      | inr other ↦ inr other
    ])
  where
    mine : (f : Session) (x : ℕ) → Some e' ≡ Some f → Contains f.own.ids x → Contains e.own.ids x
    mine f x is own = subst (λ ids. Contains ids x) (ap (λ (f : Session). f.own.ids) (sym (same_Some e' f is)) ∙ same) own

-- the session is given ids
pub keep-given : (xs : List (Option Session)) (w v : Window) (s : ℕ) (e e' : Session) (given : List ℕ) (parent : Option ℕ) → open_at xs s ≡ Some e → e'.own.ids ≡ e.own.ids ++ given
    → IsWindow v → GivesUnder w parent given v → OwnIdsKeep xs w → OwnIdsKeep (set xs s (Some e')) v
keep-given xs w v s e e' given parent at same is gives h = keep-set xs w v s (Some e') (open-within xs s e at) h
    (λ o f x ne bt own. given-active_old given w v parent x gives is (h.active o f x bt own))
    (λ f x same own. elim (mine f x same own) [
      | inl old ↦ given-active_old given w v parent x gives is (h.active s e x at old)
      | inr now ↦ given-active given w v parent x gives is now
    ])
    (λ f is'. subst AreDistinct (sym (own-ids f is')) (distinct-both e.own.ids given (h.distinct s e at) (given-distinct given w v parent gives is)
    (λ x now old. given-new given w v parent x gives is now (h.active s e x at old).is_given)))
    (λ o f g x ne same bt own own'. elim (mine f x same own) [
      | inl old ↦ ne (h.apart o s g e x bt at own' old)
      | inr now ↦ given-new given w v parent x gives is now (h.active o g x bt own').is_given
    ])
    (λ x active. elim (given-active_cases given w v parent x gives is active) [
      | inl now ↦ inl (e', refl, subst (λ ids. Contains ids x) (sym same) (Contains-append_right e.own.ids given x now))
      | inr old ↦ elim (own-cases xs s x (Some e) at (h.owned x old)) [
        | inl was ↦ inl (
          e',
          refl,
          subst (λ ids. Contains ids x) (sym same)
              (Contains-append_left e.own.ids given x (subst (λ (f : Session). Contains f.own.ids x) (sym (same_Some e was.0 was.1)) was.2)),
        )
        | inr other ↦ inr other
      ]
    ])
  where
    own-ids : (f : Session) → Some e' ≡ Some f → f.own.ids ≡ e.own.ids ++ given
    own-ids f is = ap (λ (f : Session). f.own.ids) (sym (same_Some e' f is)) ∙ same

    mine : (f : Session) (x : ℕ) → Some e' ≡ Some f → Contains f.own.ids x → Contains e.own.ids x ⊎ Contains given x
    mine f x is own = Contains-append_cases e.own.ids given x (subst (λ ids. Contains ids x) (own-ids f is) own)

-- the session's last ids are finished, and it drops them
pub keep-dropped : (xs : List (Option Session)) (w v : Window) (s : ℕ) (e e' : Session) (since : List ℕ) (status : Status) → open_at xs s ≡ Some e → e.own.ids ≡ e'.own.ids ++ since
    → status ≢ InProgress → Finishes w v since status → OwnIdsKeep xs w → OwnIdsKeep (set xs s (Some e')) v
keep-dropped xs w v s e e' since status at same final finishes h = keep-set xs w v s (Some e') (open-within xs s e at) h
    (λ o f x ne bt own. finishes-active_other w v since status x finishes (λ dropped. ne (h.apart o s f e x bt at own (was x (inr dropped)))) (h.active o f x bt own))
    (λ f x is own. finishes-active_other w v since status x finishes (λ dropped. distinct-after e.own.ids e'.own.ids since (h.distinct s e at) same x dropped (now f x is own)) (h.active s e x at (was x (inl (now f x is own)))))
    (λ f is. subst AreDistinct (ap (λ (f : Session). f.own.ids) (same_Some e' f is)) (distinct-prefix e.own.ids e'.own.ids since (h.distinct s e at) same))
    (λ o f g x ne is bt own own'. ne (h.apart o s g e x bt at own' (was x (inl (now f x is own)))))
    (λ x active. let old = finishes-active_cases w v since status x finishes final active in
    elim (own-cases xs s x (Some e) at (h.owned x old.1)) [
      | inl mine ↦ inl (e', refl, kept x old.0 (subst (λ (f : Session). Contains f.own.ids x) (sym (same_Some e mine.0 mine.1)) mine.2))
      | inr other ↦ inr other
    ])
  where
    kept : (x : ℕ) → ¬ Contains since x → Contains e.own.ids x → Contains e'.own.ids x
    kept x not_since among = elim (Contains-append_cases e'.own.ids since x (subst (λ ids. Contains ids x) same among)) [
      | inl prefix ↦ prefix
      | inr last ↦ absurd (not_since last)
    ]

    now : (f : Session) (x : ℕ) → Some e' ≡ Some f → Contains f.own.ids x → Contains e'.own.ids x
    now f x is own = subst (λ ids. Contains ids x) (ap (λ (f : Session). f.own.ids) (sym (same_Some e' f is))) own

    was : (x : ℕ) → Contains e'.own.ids x ⊎ Contains since x → Contains e.own.ids x
    was x cases = subst (λ ids. Contains ids x) (sym same) (elim cases [
      | inl prefix ↦ Contains-append_left e'.own.ids since x prefix
      | inr last ↦ Contains-append_right e'.own.ids since x last
    ])
