-- A cache goes on to agree with its table.
use Rattle.std.proofs.Common.{◌≡◌, ◌≢◌, ℕ, ◌+◌, ◌-◌, ◌<◌, ◌≤◌, ◌⊎◌, List, [], ◌∷◌, length, take, length-drop, Contains, nat_eq, true, false, Some, refl, sym, ap, ◌∙◌, subst, inl, inr, ⊎_elim, arith, slice_get}
use Rattle.std.proofs.lemmas.Bool.{cases_lt}
use Rattle.xid_circle.specs.Circle.{given}
use Rattle.lru.proofs.CallerLemmas.{Contains-take, Contains-lookup}
use Rattle.lru.proofs.Splits.{Contains-head, Contains-tail, Contains-cons, Contains-nil}
use Rattle.commit_status.specs.declared.status.Status.{Status}
use Rattle.commit_status.specs.declared.status.Status.TheVariants.{InProgress}
use Rattle.commit_status.specs.Window.{Window, IsWindow, IsActive, IsUpToNext, turns, place, status_in, status_of}
use Rattle.commit_status.specs.Changes.{Finishes, Truncates}
use Rattle.commit_status.proofs.Turns.{given-given}
use Rattle.commit_status.proofs.Places.{at-from_place, given-place, place-given, place-lt, given-upto, upto-place, precedes-turns, some-from_is, is-from_some}
use Rattle.commit_status.proofs.ChangesLemmas.{entry-at, drop-at}
use Rattle.commit_status.proofs.Giving.{finished-place}
use Rattle.commit_status.proofs.Finishing.{finishes-given}
use Rattle.snapshot.specs.Snap.{is_before}
use Rattle.snapshot.proofs.Earliest.{precedes-before}
use Rattle.visibility.specs.Visible.{state_of}
use Rattle.visibility.proofs.Makers.{state-some, state-is}
use Rattle.std.specs.Map.{lookup}
use Rattle.status_cache.proofs.HeldLemmas.{same-number}
use Rattle.status_cache.specs.declared.cache.TheConstants.{MOST_STATUSES}
use Rattle.status_cache.specs.Held.{HaveEnded, CacheAgrees, CachesStatus, is_put, is_left, held_from}

-- what has ended is remembered
pub ended-state : (w : Window) (x : ℕ) (status : Status) → status ≢ InProgress → status_of w x ≡ status → state_of w x ≡ Some status
ended-state w x status ended is =
    let at = finished-place w x (λ active. ended (sym is ∙ active)) in
    state-is w x status (is-from_some (place w x) at.0 at.1) is

-- what is found is the table's
pub found-status : (w : Window) (held : List (ℕ × Status)) (x : ℕ) (status : Status) → lookup (nat_eq x) held ≡ Some status → CacheAgrees held w → status ≡ status_of w x
found-status w held x status found agrees =
    let there = Contains-lookup (nat_eq x) held status found in
    sym (state-some w there.0 status (agrees (there.0, status) there.1)).1 ∙ ap (status_of w) (sym (same-number x there.0 there.2))

pub keeps-agrees : (w : Window) (old new : List (ℕ × Status)) (x : ℕ) (status : Status) → status_of w x ≡ status → CachesStatus old new x status → CacheAgrees old w → CacheAgrees new w
keeps-agrees w old new x status is (is_put ended same) agrees = subst (λ held. CacheAgrees held w) (sym same) (λ e there. elim (Contains-cons (x, status) (take (MOST_STATUSES - 1) old) e there) [
  | inl one ↦ subst (λ (f : ℕ × Status). state_of w f.0 ≡ Some f.1) one (ended-state w x status ended is)
  | inr was ↦ agrees e (Contains-take (MOST_STATUSES - 1) old e was)
])
keeps-agrees w old new x status is (is_left same) agrees = subst (λ held. CacheAgrees held w) (sym same) agrees

pub finishing-keeps : (w v : Window) (ids : List ℕ) (status : Status) (held : List (ℕ × Status)) → HaveEnded held
    → ((x : ℕ) → Contains ids x → IsActive w x) → Finishes w v ids status → CacheAgrees held w → CacheAgrees held v
finishing-keeps w v ids status held ended active f agrees e there =
    let was = state-some w e.0 e.1 (agrees e there) in
    state-is v e.0 e.1 (finishes-given w v ids status e.0 f was.0)
    (⊎_elim (λ mine. absurd (ended e there (sym was.1 ∙ (active e.0 mine.0).unfinished))) (λ other. other.1 ∙ was.1) (f.each e.0))

-- an id that is not before the cutoff is remembered as it was
late-state : (w v : Window) (c x i : ℕ) (status : Status) → IsWindow w → IsWindow v → IsUpToNext w c → Truncates w v c
    → place w x ≡ Some i → turns w.first c ≤ i → status_of w x ≡ status → state_of v x ≡ Some status
late-state w v c x i status is iv up t at late was =
    let k : ℕ = turns w.first c in
    let within = place-lt w x i at in
    let long : length v.entries ≡ length w.entries - k = ap length t.entries ∙ length-drop k w.entries in
    let sum : k + (i - k) ≡ i = omega arith in
    let turned : given v.first (i - k) ≡ given w.first (k + (i - k)) = ap (λ f. given f (i - k)) (t.first ∙ sym (given-upto w c is up)) ∙ given-given w.first k (i - k) in
    let here : given v.first (i - k) ≡ x = turned ∙ ap (given w.first) sum ∙ given-place w x i is at in
    let stays : place v x ≡ Some (i - k) = subst (λ y. place v y ≡ Some (i - k)) here (place-given v (i - k) iv (omega arith)) in
    state-is v x status (is-from_some (place v x) (i - k) stays)
    (ap status_in (entry-at v x (i - k) stays ∙ ap (λ es. slice_get es (i - k)) t.entries ∙ drop-at k (i - k) w.entries ∙ ap (slice_get w.entries) sum ∙ sym (entry-at w x i at)) ∙ was)

-- what is held on is not before the cutoff
pub from-held : (c : ℕ) (held : List (ℕ × Status)) (e : ℕ × Status) → Contains (held_from c held) e → Contains held e × (is_before e.0 c ≡ false)
from-held c [] e there = absurd (Contains-nil e there)
from-held c (f ∷ held) e there = (elim (is_before f.0 c) as (λ b. is_before f.0 c ≡ b → Contains (f ∷ held) e × (is_before e.0 c ≡ false)) [
  | true ↦ λ t. let on = from-held c held e (rw t at there) in (Contains-tail f held e on.0, on.1)
  | false ↦ λ t. elim (Contains-cons f (held_from c held) e (rw t at there)) [
    | inl one ↦ (subst (Contains (f ∷ held)) one (Contains-head f held), subst (λ (g : ℕ × Status). is_before g.0 c ≡ false) one t)
    | inr rest ↦ let on = from-held c held e rest in (Contains-tail f held e on.0, on.1)
  ]
]) refl

pub truncating-keeps : (w v : Window) (c : ℕ) (held : List (ℕ × Status)) → IsWindow w → IsWindow v → IsUpToNext w c → Truncates w v c
    → CacheAgrees held w → CacheAgrees (held_from c held) v
truncating-keeps w v c held is iv up t agrees e there =
    let was = from-held c held e there in
    let state = state-some w e.0 e.1 (agrees e was.0) in
    let i = some-from_is (place w e.0) state.0 in
    let turn = (at-from_place w.first (length w.entries) e.0 i.0 i.1).turn in
    late-state w v c e.0 i.0 e.1 is iv up t i.1 (subst (λ n. turns w.first c ≤ n) turn (late (upto-place w e.0 i.0 i.1) was.1 (cases_lt (turns w.first e.0) (turns w.first c)))) state.1
  where
    late : IsUpToNext w e.0 → is_before e.0 c ≡ false → (turns w.first e.0 < turns w.first c) ⊎ (turns w.first c ≤ turns w.first e.0) → turns w.first c ≤ turns w.first e.0
    late ue other (inl less) = absurd (let yes = precedes-before e.0 c ((precedes-turns w e.0 c is ue up).1 less) in cc)
    late ue other (inr ge) = ge
