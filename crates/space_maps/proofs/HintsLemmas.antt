-- What hints say after one of them changes, one is added, or an epoch ends.
use Rattle.std.proofs.Common.{◌≡◌, ◌≢◌, ◌∙◌, ℕ, ◌<◌, ◌≤◌, inl, inr, ⊎_elim, ◌⊎◌, List, map, set, length, Option, Some, None, refl, sym, ap, subst, arith, slice_index_or}
use Rattle.std.specs.List.{All}
use Rattle.std.proofs.lemmas.Bool.{cases_lt, cases_eq, eq-eqb, ne_eqb}
use Rattle.std.proofs.lemmas.List.{map-set, get_or-map, get_or_past, get_or-set_same, get_or-set_other, get_or_default, length-map, length-set}
use Rattle.space_maps.specs.Hints.{PageHint, nothing_known, hint_on, hint_in, AddsDoubt, Lowers}
use Rattle.space_maps.specs.declared.prune_hints.PruneHint.{PruneHint}

-- what a hint says in this epoch, and what all of them do
abbrev pub says : ℕ → PruneHint → PageHint
says now hint = hint_in now hint.epoch hint.turn hint.doubts

abbrev pub pages_in : ℕ → List PruneHint → List PageHint
pages_in now hints = map (says now) hints

-- a hint that says nothing
abbrev pub nothing : ℕ → PruneHint
nothing epoch = record { epoch = epoch; turn = None; doubts = None }

-- a hint of this epoch
abbrev pub of_now : ℕ → PageHint → PruneHint
of_now now hint = record { epoch = now; turn = hint.turn; doubts = hint.doubts }

says-now : (now : ℕ) (turn : Option ℕ) (doubts : Option (List ℕ)) → hint_in now now turn doubts ≡ record { turn = turn; doubts = doubts }
says-now now turn doubts = rw (eq-eqb now now refl) refl

says-later : (now epoch : ℕ) (turn : Option ℕ) (doubts : Option (List ℕ)) → epoch < now → hint_in now epoch turn doubts ≡ nothing_known
says-later now epoch turn doubts before = rw (ne_eqb epoch now (λ e. omega (arith, before, e))) refl

-- the hint of a page is replaced by one of this epoch
pub pages-set : (now : ℕ) (hints : List PruneHint) (n : ℕ) (turn : Option ℕ) (doubts : Option (List ℕ))
    → pages_in now (set hints n (record { epoch = now; turn = turn; doubts = doubts })) ≡ set (pages_in now hints) n (record { turn = turn; doubts = doubts })
pages-set now hints n turn doubts =
    map-set (says now) hints n (record { epoch = now; turn = turn; doubts = doubts }) ∙ ap (set (pages_in now hints) n) (says-now now turn doubts)

-- the hint of a page is changed where it stands, and stays of this epoch
said : (now : ℕ) (hint : PruneHint) → hint.epoch ≡ now → says now hint ≡ record { turn = hint.turn; doubts = hint.doubts }
said now hint is = ap (λ epoch. hint_in now epoch hint.turn hint.doubts) is ∙ says-now now hint.turn hint.doubts

hint-here : (now : ℕ) (hints : List PruneHint) (n : ℕ) (hint : PruneHint) → n < length hints → hint ≡ slice_index_or hints n hint → hint.epoch ≡ now
    → hint_on (pages_in now hints) n ≡ record { turn = hint.turn; doubts = hint.doubts }
hint-here now hints n hint within is epoch = get_or-map (says now) hints n hint nothing_known within ∙ (ap (says now) (sym is) ∙ said now hint epoch)

pub lowers-here : (now : ℕ) (hints : List PruneHint) (n turn slot : ℕ) (old hint new : PruneHint) → n < length hints → old ≡ slice_index_or hints n old → hint ≡ slice_index_or hints n hint
    → old.epoch ≡ now → new.epoch ≡ hint.epoch
    → Lowers (record { turn = hint.turn; doubts = hint.doubts }) turn slot (record { turn = new.turn; doubts = new.doubts })
    → Lowers (hint_on (pages_in now hints) n) turn slot (hint_on (pages_in now (set hints n new)) n)
lowers-here now hints n turn slot old hint new within old_is hint_is epoch kept lowers =
    let same : hint ≡ old = hint_is ∙ get_or_default hints n hint old within ∙ sym old_is in
    let of_now : hint.epoch ≡ now = ap (λ (h : PruneHint). h.epoch) same ∙ epoch in
    let placed = subst (λ count. n < count) (sym (length-set hints n new)) within in
    subst (λ h. Lowers h turn slot (hint_on (pages_in now (set hints n new)) n)) (sym (hint-here now hints n hint within hint_is of_now))
    (subst (λ h. Lowers (record { turn = hint.turn; doubts = hint.doubts }) turn slot h)
    (sym (hint-here now (set hints n new) n new placed (sym (get_or-set_same hints n new new within)) (kept ∙ of_now))) lowers)

pub kept-others : (now : ℕ) (hints : List PruneHint) (n m : ℕ) (new : PruneHint) → m ≢ n → hint_on (pages_in now (set hints n new)) m ≡ hint_on (pages_in now hints) m
kept-others now hints n m new other = ap (λ said. hint_on said m) (map-set (says now) hints n new) ∙ get_or-set_other (pages_in now hints) n m (says now new) nothing_known other

-- in a later epoch all say nothing
pub pages-later : (now later : ℕ) (hints : List PruneHint) → now < later → All (λ (hint : PruneHint). hint.epoch ≤ now) hints
    → (n : ℕ) → hint_on (pages_in later hints) n ≡ nothing_known
pages-later now later hints lt within n =
    elim (cases_lt n (length hints)) [
      | inl below ↦ get_or-map (says later) hints n (nothing 0) nothing_known below
          ∙ says-later later _ _ _ (let le = within n (nothing 0) below in omega arith)
      | inr past ↦ get_or_past (pages_in later hints) n nothing_known (subst (λ k. k ≤ n) (sym (length-map hints (says later))) past)
    ]

-- a slot is noted where none was, or where it was itself
pub doubt-put : (known : List ℕ) (place slot : ℕ) → place < length known → (slice_index_or known place 0 ≡ 0) ⊎ (slice_index_or known place 0 ≡ slot)
    → AddsDoubt (Some known) slot (Some (set known place slot))
doubt-put known place slot within free n from off = (
  (λ same. off (place, subst (λ k. place < k) (sym (length-set known place slot)) within, get_or-set_same known place slot n within ∙ sym same)),
  (λ was. ⊎_elim
      (λ here.
      let at : slice_index_or known place 0 ≡ n = get_or_default known place 0 n within ∙ (ap (λ k. slice_index_or known k n) (sym here) ∙ was.2) in
      ⊎_elim (λ none. let zero_is : n ≡ 0 = sym at ∙ none in absurd (omega (arith, from, zero_is)))
      (λ it. off (place, subst (λ k. place < k) (sym (length-set known place slot)) within, get_or-set_same known place slot n within ∙ (sym it ∙ at)))
      free)
      (λ other. off (was.0, subst (λ k. was.0 < k) (sym (length-set known place slot)) was.1, get_or-set_other known place was.0 slot n other ∙ was.2))
      (cases_eq was.0 place)),
)
