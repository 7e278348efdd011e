-- What it means that a session takes ids: what was known stays, and all of its ids are in progress.
use Rattle.std.proofs.Common.{◌≡◌, ◌⊎◌, ◌↔◌, ℕ, List, [], ◌∷◌, Option, Some, sym, subst, ⊎_elim}
use Rattle.std.specs.Prelude.{Contains}
use Rattle.std.proofs.lemmas.List.Elements.{Contains-append_left, Contains-append_cases}
use Rattle.commit_status.specs.Window.{Window, IsWindow, IsGiven, IsActive, status_of}
use Rattle.commit_status.specs.Changes.{Gives}
use Rattle.snapshot.specs.Own.{Own, current_xid}
use Rattle.snapshot.specs.Snap.{Snap}
use Rattle.snapshot.proofs.Levels.{level-mine, unassigned_levels-given}
use Rattle.tuple_header.specs.declared.version.Header.{Header}
use Rattle.visibility.specs.Visible.{ReadsIn, IsVisible}
use Rattle.visibility.specs.Laws.{KeepsVerdicts}
use Rattle.visibility.proofs.Verdicts.{giving-unseen}
use Rattle.write_ids.specs.Ids.{GivesUnder, TakesIds}
use Rattle.write_ids.proofs.GivenIds.{given-window, given-status, given-active_old, given-active, given-new}

-- what giving one id keeps is kept
pub under-keeps : (P : Window → Type 0) → ((u v : Window) (parent : Option ℕ) → IsWindow u → IsWindow v → Gives u v parent → P u → P v)
    → (w v : Window) (parent : Option ℕ) (given : List ℕ) → IsWindow w → IsWindow v → GivesUnder w parent given v → P w → P v
under-keeps P keeps w v parent [] before after same p = subst P (sym same) p
under-keeps P keeps w v parent (x ∷ given) before after (between, is, gives, rest) p =
    let on = given-window given between v (Some x) rest after in under-keeps P keeps between v (Some x) given on after rest (keeps w between parent before on gives p)

-- where all that was known stays known, the verdicts are the same of every id and of every version
kept-ids : (w v : Window) (s : Snap) (own : List ℕ) (y : ℕ) → KeepsVerdicts w v s own → ReadsIn v s own y ↔ ReadsIn w s own y
kept-ids w v s own y k = k.1.ids y (k.0 y)

kept-versions : (w v : Window) (s : Snap) (own : List ℕ) (h : Header) → KeepsVerdicts w v s own → IsVisible v s own h ↔ IsVisible w s own h
kept-versions w v s own h k = k.1.versions h (λ y touch. k.0 y)

verdicts-then : (u v w : Window) (s : Snap) (own : List ℕ) → KeepsVerdicts u v s own → KeepsVerdicts v w s own → KeepsVerdicts u w s own
verdicts-then u v w s own a b = (
  λ y there. b.0 y (a.0 y there),
  record {
    ids = λ y known. let f = kept-ids u v s own y a in let g = kept-ids v w s own y b in ((λ r. f.0 (g.0 r)), (λ r. g.1 (f.1 r)));
    versions = λ h known. let f = kept-versions u v s own h a in let g = kept-versions v w s own h b in ((λ r. f.0 (g.0 r)), (λ r. g.1 (f.1 r)));
  },
)

module _ (w v : Window) (own own' : Own) (x : ℕ) (before : IsWindow w) (after : IsWindow v) (takes : TakesIds w v own own' x) where
  pub takes-status : (y : ℕ) → status_of v y ≡ status_of w y
  takes-status y = given-status takes.given w v (current_xid own.ids own.saved) y takes.gives after

  -- who reads what doesn't change
  takes-verdicts : (s : Snap) (ids : List ℕ) → KeepsVerdicts w v s ids
  takes-verdicts s ids = under-keeps (λ u. KeepsVerdicts w u s ids) (λ a b p wa wb g same. verdicts-then w a b s ids same (giving-unseen a b p s ids wa wb g)) w v _ takes.given before after takes.gives
      (λ y there. there, record { ids = λ z known. (λ r. r, λ r. r); versions = λ h known. (λ r. r, λ r. r) })

  pub takes-ids : (s : Snap) (ids : List ℕ) (y : ℕ) → ReadsIn v s ids y ↔ ReadsIn w s ids y
  takes-ids s ids y = kept-ids w v s ids y (takes-verdicts s ids)

  pub takes-versions : (s : Snap) (ids : List ℕ) (h : Header) → IsVisible v s ids h ↔ IsVisible w s ids h
  takes-versions s ids h = kept-versions w v s ids h (takes-verdicts s ids)

  -- its ids are those that it had and the new ones
  takes-cases : (y : ℕ) → Contains own'.ids y → Contains own.ids y ⊎ Contains takes.given y
  takes-cases y mine = Contains-append_cases own.ids takes.given y (subst (λ (ids : List ℕ). Contains ids y) takes.ids mine)

  pub takes-more : (y : ℕ) → Contains own.ids y → Contains own'.ids y
  takes-more y mine = subst (λ (ids : List ℕ). Contains ids y) (sym takes.ids) (Contains-append_left own.ids takes.given y mine)

  -- an id that was given is not a new one
  pub takes-old : (y : ℕ) → IsGiven w y → Contains own'.ids y → Contains own.ids y
  takes-old y there mine = ⊎_elim (λ old. old) (λ new. absurd (given-new takes.given w v (current_xid own.ids own.saved) y takes.gives after new there)) (takes-cases y mine)

  pub takes-mine : Contains own'.ids x
  takes-mine = level-mine own'.ids own'.saved x (rw (takes.ids, takes.saved) (unassigned_levels-given takes.given own.ids own.saved takes.count)) takes.newest

  -- all of them are in progress
  pub takes-active : ((y : ℕ) → Contains own.ids y → IsActive w y) → (y : ℕ) → Contains own'.ids y → IsActive v y
  takes-active active y mine = ⊎_elim
      (λ old. given-active_old takes.given w v (current_xid own.ids own.saved) y takes.gives after (active y old))
      (λ new. given-active takes.given w v (current_xid own.ids own.saved) y takes.gives after new)
      (takes-cases y mine)
