-- What a change of the lists makes of the world.
use Rattle.std.proofs.Common.{◌≡◌, ℕ, ◌<◌, List, [], length, set, Option, Some, None, Bool, false, cond, nat_eq, refl, sym, ap, ◌∙◌, subst, inl, inr, get_or, replicate}
use Rattle.std.specs.Prelude.{zero, suc}
use mathlib.Core.Path.{fun_ext}
use Rattle.std.specs.Option.{option_map, option_flatten}
use Rattle.std.proofs.lemmas.Bool.{cases_eq}
use Rattle.std.proofs.lemmas.List.{get_or-set_same, get_or-set_other}
use Rattle.plain_history.specs.declared.plain.PlainSession.{PlainSession}
use Rattle.history.specs.History.{Transaction}
use Rattle.history.specs.World.{OpenSession, World, is_indexed, joined}
use Rattle.history.specs.Moves.{stepped, put, change, free_to_scan, blocked_by, aborted, appended, committed_by}
use Rattle.plain_history.specs.Answers.{with_transaction}
use Rattle.plain_history.specs.Plain.{Plain, open_of, session_in, too_new_in, world_of}
use Rattle.waits.specs.View.{wait_in}
use Rattle.waits.proofs.WaitLemmas.{wait_in-set}
use Rattle.history.proofs.Places.{slice_get-set_same, slice_get-set_other}
use Rattle.plain_history.proofs.Sessions.{session_in-read}
use Rattle.history.proofs.HistoryLemmas.{at_same, at_other}

abbrev world : Plain → (ℕ → Option OpenSession) → (ℕ → Option ℕ) → World
world p session waits = record { history = p.history; session = session; waits_for = waits; has_index = is_indexed p.indexed; too_new = too_new_in p.too_new; has_vacuum = p.has_vacuum }

same_world : (p : Plain) (sessions sessions' : ℕ → Option OpenSession) (waits waits' : ℕ → Option ℕ) → ((s : ℕ) → sessions s ≡ sessions' s) → ((s : ℕ) → waits s ≡ waits' s)
    → world p sessions waits ≡ world p sessions' waits'
same_world p sessions sessions' waits waits' same same' =
    ap (λ f. world p f waits) (fun_ext same) ∙ ap (world p sessions') (fun_ext same')

-- one place of the lists
session_in-set : (sessions : List (Option PlainSession)) (s : ℕ) (x : Option PlainSession) → s < length sessions → (t : ℕ)
    → session_in (set sessions s x) t ≡ cond (nat_eq t s) (option_map open_of x) (session_in sessions t)
session_in-set sessions s x within t = elim (cases_eq t s) [
  | inl same ↦ subst (λ u. session_in (set sessions s x) u ≡ cond (nat_eq u s) (option_map open_of x) (session_in sessions u)) (sym same)
      (ap (λ y. option_map open_of (option_flatten y)) (slice_get-set_same sessions s x within) ∙ sym (at_same s (option_map open_of x) (session_in sessions s)))
  | inr ne ↦ ap (λ y. option_map open_of (option_flatten y)) (slice_get-set_other sessions s t x ne) ∙ sym (at_other t s (option_map open_of x) (session_in sessions t) ne)
]

pub world-step : (p : Plain) (s : ℕ) → s < length p.waits → world_of (record p { waits = set p.waits s None }) ≡ stepped (world_of p) s
world-step p s within = same_world p (session_in p.sessions) (session_in p.sessions) (wait_in (set p.waits s None)) (λ t. cond (nat_eq t s) None (wait_in p.waits t))
    (λ t. refl) (wait_in-set p.waits s None within)

pub world-wait : (p : Plain) (s o : ℕ) → s < length p.waits → world_of (record p { waits = set p.waits s (Some o) }) ≡ blocked_by (world_of p) s o
world-wait p s o within = same_world p (session_in p.sessions) (session_in p.sessions) (wait_in (set p.waits s (Some o))) (λ t. cond (nat_eq t s) (Some o) (wait_in p.waits t))
    (λ t. refl) (wait_in-set p.waits s (Some o) within)

pub world-put : (p : Plain) (s : ℕ) (x : Option PlainSession) → s < length p.sessions → s < length p.waits
    → world_of (record p { sessions = set p.sessions s x; waits = set p.waits s None }) ≡ put (world_of p) s (option_map open_of x)
world-put p s x within within' = same_world p (session_in (set p.sessions s x)) (λ t. cond (nat_eq t s) (option_map open_of x) (session_in p.sessions t))
    (wait_in (set p.waits s None)) (λ t. cond (nat_eq t s) None (wait_in p.waits t)) (session_in-set p.sessions s x within) (wait_in-set p.waits s None within')

pub world-change : (p : Plain) (s : ℕ) (x y : Option PlainSession) (f : OpenSession → OpenSession) → s < length p.sessions → s < length p.waits
    → option_map open_of y ≡ option_map f (option_map open_of x) → x ≡ get_or p.sessions s x
    → world_of (record p { sessions = set p.sessions s y; waits = set p.waits s None }) ≡ change (world_of p) s f
world-change p s x y f within within' becomes is =
    world-put p s y within within' ∙ ap (put (world_of p) s) (becomes ∙ ap (option_map f) (sym (session_in-read p.sessions s x within is)))

pub world-same : (p : Plain) (s : ℕ) (x y : Option PlainSession) → s < length p.sessions → s < length p.waits
    → option_map open_of y ≡ option_map open_of x → x ≡ get_or p.sessions s x
    → world_of (record p { sessions = set p.sessions s y; waits = set p.waits s None }) ≡ stepped (world_of p) s
world-same p s x y within within' stays is =
    same_world p (session_in (set p.sessions s y)) (session_in p.sessions) (wait_in (set p.waits s None)) (λ t. cond (nat_eq t s) None (wait_in p.waits t))
    (λ t. session_in-set p.sessions s y within t ∙ unchanged t) (wait_in-set p.waits s None within')
  where
    unchanged : (t : ℕ) → cond (nat_eq t s) (option_map open_of y) (session_in p.sessions t) ≡ session_in p.sessions t
    unchanged t = elim (cases_eq t s) [
      | inl same ↦ subst (λ u. cond (nat_eq u s) (option_map open_of y) (session_in p.sessions u) ≡ session_in p.sessions u) (sym same)
          (at_same s (option_map open_of y) (session_in p.sessions s) ∙ (stays ∙ sym (session_in-read p.sessions s x within is)))
      | inr ne ↦ at_other t s (option_map open_of y) (session_in p.sessions t) ne
    ]

-- The same, for a list state that is seen as q.

-- a step by which the session changes, or stays as it is
pub changes : (p q : Plain) (s : ℕ) (x y : Option PlainSession) (f : OpenSession → OpenSession) → p ≡ q → s < length p.sessions → s < length p.waits
    → x ≡ get_or p.sessions s x → option_map open_of y ≡ option_map f (option_map open_of x)
    → world_of (record p { sessions = set p.sessions s y; waits = set p.waits s None }) ≡ change (world_of q) s f
changes p q s x y f seen within within' is becomes = world-change p s x y f within within' becomes is ∙ ap (λ (q : Plain). change (world_of q) s f) seen

pub stays_so : (p q : Plain) (s : ℕ) (x y : Option PlainSession) → p ≡ q → s < length p.sessions → s < length p.waits
    → x ≡ get_or p.sessions s x → option_map open_of y ≡ option_map open_of x
    → world_of (record p { sessions = set p.sessions s y; waits = set p.waits s None }) ≡ stepped (world_of q) s
stays_so p q s x y seen within within' is stays = world-same p s x y within within' stays is ∙ ap (λ (q : Plain). stepped (world_of q) s) seen

-- a place of the marks, and an index of it
pub too_new_in-set : (marks : List (List Bool)) (s : ℕ) (row : List Bool) → s < length marks → (t index : ℕ)
    → too_new_in (set marks s row) t index ≡ cond (nat_eq t s) (get_or row index false) (too_new_in marks t index)
too_new_in-set marks s row within t index = elim (cases_eq t s) [
  | inl same ↦ subst (λ u. too_new_in (set marks s row) u index ≡ cond (nat_eq u s) (get_or row index false) (too_new_in marks u index)) (sym same)
      (ap (λ r. get_or r index false) (get_or-set_same marks s row [] within) ∙ sym (at_same s (get_or row index false) (too_new_in marks s index)))
  | inr ne ↦ ap (λ r. get_or r index false) (get_or-set_other marks s t row [] ne) ∙ sym (at_other t s (get_or row index false) (too_new_in marks t index) ne)
]

-- no index is too new for a session that begins
pub none_marked : (n index : ℕ) → get_or (replicate n false) index false ≡ false
none_marked zero index = refl
none_marked (suc n) zero = refl
none_marked (suc n) (suc index) = none_marked n index

pub world-free : (p : Plain) (s n : ℕ) → s < length p.too_new → world_of (record p { too_new = set p.too_new s (replicate n false) }) ≡ free_to_scan (world_of p) s
world-free p s n within = ap (λ marks. record (world_of p) { too_new = marks })
    (fun_ext (λ t. fun_ext (λ index. too_new_in-set p.too_new s (replicate n false) within t index ∙ ap (λ b. cond (nat_eq t s) b (too_new_in p.too_new t index)) (none_marked n index))))

-- a transaction joins the history, and its session ends
pub commits_so : (w mid after : World) (s : ℕ) (t : Transaction) (m : OpenSession) → w.session s ≡ Some m → t ≡ joined m.levels
    → mid ≡ with_transaction w t → after ≡ aborted mid s → after ≡ committed_by w s
commits_so w mid after s t m at is appends ends =
    ends ∙ (ap (λ v. aborted v s) (appends ∙ ap (with_transaction w) is) ∙ ap (λ n. record (aborted w s) { history = appended w.history n }) (sym at))

-- What a cursor hands out.
