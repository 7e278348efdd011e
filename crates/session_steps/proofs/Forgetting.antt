-- What a vacuum asks of the engine's ids.
use Rattle.std.proofs.Common.{◌≡◌, ℕ, ◌<◌, ◌≤◌, ◌⊎◌, ◌↔◌, Bool, true, false, IsTrue, List, length, Option, Some, arith, refl, sym, ap, ◌∙◌, subst, ⊎_elim}
use Rattle.std.specs.Prelude.{Contains}
use Rattle.std.proofs.lemmas.Bool.{cases_lt}
use Rattle.xid_circle.specs.Circle.{Precedes, given}
use Rattle.commit_status.specs.Window.{Window, IsWindow, IsGiven, IsUpToNext, place, next_id, turns}
use Rattle.commit_status.specs.Changes.{Truncates}
use Rattle.commit_status.proofs.Places.{upto-next, upto-given, given-upto, place-from_at, is-from_some, some-from_is, at-from_place, precedes-turns}
use Rattle.forgetting.proofs.Stays.{stays-known, place-stays}
use Rattle.heap_write.specs.Heap.{HeapView}
use Rattle.calls.specs.declared.vacuum.Piece.{Piece}
use Rattle.vacuum_passes.specs.View.{VacuumView}
use Rattle.vacuum_passes.specs.Steps.{Steps}
use Rattle.sessions.specs.declared.session.Session.{Session}
use Rattle.session_steps.specs.Keeps.{EngineKeeps}
use Rattle.sessions.specs.Places.{open_at, HoldsOpen}
use Rattle.session_steps.specs.State.{State}
use Rattle.session_steps.specs.Vacuums.{MayForget}

-- An id is remembered or the next.

pub upto-from : (w : Window) (x : ℕ) → IsWindow w → (x ≡ next_id w) ⊎ IsGiven w x → IsUpToNext w x
upto-from w x window or = ⊎_elim (λ is. subst (IsUpToNext w) (sym is) (upto-next w window)) (λ there. upto-given w x there) or

pub upto-to : (w : Window) (x : ℕ) → IsWindow w → IsUpToNext w x → ¬ IsGiven w x → x ≡ next_id w
upto-to w x window upto off = ⊎_elim
    (λ (less : turns w.first x < length w.entries). absurd (off (is-from_some (place w x) (turns w.first x)
    (place-from_at w.first (length w.entries) x (turns w.first x) (record { normal = upto.normal; fits = upto.fits; turn = refl; within = less })))))
    (λ (past : length w.entries ≤ turns w.first x).
    let reached = upto.reached in
    let last : turns w.first x ≡ length w.entries = omega (arith, reached, past) in
    sym (given-upto w x window upto) ∙ ap (given w.first) last)
    (cases_lt (turns w.first x) (length w.entries))

pub remembered : (w : Window) (x : ℕ) (b : Bool) → IsWindow w → IsUpToNext w x → ¬ (x ≡ next_id w) → (IsGiven w x → IsTrue b) → IsTrue b
remembered w x true window upto off there = refl
remembered w x false window upto off there = absurd (off (upto-to w x window upto (λ given_. let e = there given_ in cc)))

-- Own ids.

-- whose ids are at or after the cutoff
abbrev pub AreFrom : List (Option Session) → ℕ → Type 0
AreFrom sessions cutoff = (s : ℕ) (e : Session) (x : ℕ) → open_at sessions s ≡ Some e → Contains e.own.ids x → ¬ Precedes x cutoff

module _ (xs : List (Option Session)) (w : Window) (window : IsWindow w) (keeps : EngineKeeps xs w) where
  pub own-upto : (s : ℕ) (e : Session) (x : ℕ) → open_at xs s ≡ Some e → Contains e.own.ids x → IsUpToNext w x
  own-upto s e x at mine = upto-given w x (keeps.own.active s e x at mine).is_given

  module _ (cutoff : ℕ) (upto : IsUpToNext w cutoff) where
    pub from-late : AreFrom xs cutoff → (s : ℕ) (e : Session) (x : ℕ) → open_at xs s ≡ Some e → Contains e.own.ids x → turns w.first cutoff ≤ turns w.first x
    from-late from s e x at mine = ⊎_elim
        (λ early. absurd (from s e x at mine ((precedes-turns w x cutoff window (own-upto s e x at mine) upto).1 early)))
        (λ late. late)
        (cases_lt (turns w.first x) (turns w.first cutoff))

    pub late-from : ((s : ℕ) (e : Session) (x : ℕ) → open_at xs s ≡ Some e → Contains e.own.ids x → turns w.first cutoff ≤ turns w.first x) → AreFrom xs cutoff
    late-from late s e x at mine early =
        let less = (precedes-turns w x cutoff window (own-upto s e x at mine) upto).0 early in
        let le = late s e x at mine in
        omega (arith, less, le)

-- what is asked of the sessions that are looked through tells whether ids can be forgotten
pub may-forget : (st : State) (used : List (Option Session)) (cutoff : ℕ) (b : Bool) → IsWindow st.heap.statuses → EngineKeeps st.sessions st.heap.statuses → IsUpToNext st.heap.statuses cutoff
    → HoldsOpen used st.sessions → (IsTrue b ↔ AreFrom used cutoff) → (IsTrue b ↔ MayForget st cutoff)
may-forget st used cutoff b window keeps upto holds says = (
  λ t. record { upto = upto; unowned = from-late st.sessions st.heap.statuses window keeps cutoff upto (λ s e x at. says.0 t s e x (holds.each s ∙ at)) },
  λ may. says.1 (λ s e x at. late-from st.sessions st.heap.statuses window keeps cutoff upto may.unowned s e x (sym (holds.each s) ∙ at)),
)

-- Forgetting.

pub keeps-forget : (xs : List (Option Session)) (w v : Window) (c : ℕ) → IsWindow w → IsWindow v → Truncates w v c → IsUpToNext w c
    → ((s : ℕ) (e : Session) (x : ℕ) → open_at xs s ≡ Some e → Contains e.own.ids x → turns w.first c ≤ turns w.first x) → EngineKeeps xs w → EngineKeeps xs v
keeps-forget xs w v c is iv t up late keeps = record {
  count = keeps.count;
  own = record {
    active = λ s e x at mine.
        let active = keeps.own.active s e x at mine in
        let found = some-from_is (place w x) active.is_given in
        let turn = (at-from_place w.first (length w.entries) x found.0 found.1).turn in
        let le = late s e x at mine in
        let there = is-from_some (place v x) _ (place-stays w v c is iv t up x found.0 found.1 (omega (arith, turn, le))) in
        record { is_given = there; unfinished = (stays-known w v c x is iv t up there).1 ∙ active.unfinished };
    distinct = keeps.own.distinct;
    apart = keeps.own.apart;
    owned = λ x active.
        let known = stays-known w v c x is iv t up active.is_given in
        keeps.own.owned x (record { is_given = known.0; unfinished = sym known.1 ∙ active.unfinished });
  };
}

-- Steps of a vacuum leave the ids as they are.

pub steps-table : (h h' : HeapView) (v : VacuumView) (horizon : ℕ) (after : Option VacuumView) (did : Option Piece) → Steps h h' v horizon after did → h'.statuses ≡ h.statuses
steps-table h h' v horizon _ _ (Steps.visits p v' is next visit) = ap (λ (g : HeapView). g.statuses) visit.notes.is ∙ ap (λ (g : HeapView). g.statuses) visit.visits.freezes.is
    ∙ ap (λ (g : HeapView). g.statuses) visit.visits.prunes.is
steps-table h h' v horizon _ _ (Steps.begins_index v' is over some s) = ap (λ (g : HeapView). g.statuses) s.sweeps.is
steps-table h h' v horizon _ _ (Steps.sweeps i from v' is s) = ap (λ (g : HeapView). g.statuses) s.sweeps.is
steps-table h h' v horizon _ _ (Steps.frees p v' is f) = ap (λ (g : HeapView). g.statuses) f.notes.is ∙ ap (λ (g : HeapView). g.statuses) f.frees.is
steps-table h h' v horizon _ _ (Steps.drops p v' is d) = ap (λ (g : HeapView). g.statuses) d.same
steps-table h h' v horizon _ _ (Steps.ends is over none same) = ap (λ (g : HeapView). g.statuses) same
