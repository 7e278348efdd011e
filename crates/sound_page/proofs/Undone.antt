-- Versions whose inserter is aborted: no link leads to them.
use Rattle.std.proofs.Common.{◌≡◌, ◌≢◌, ℕ, zero, suc, true, false, List, Some, sym, ap, ◌∙◌, refl, subst}
use Rattle.std.proofs.lemmas.Option.{same_Some}
use Rattle.xid_circle.specs.Following.{ReachesIn}
use Rattle.page_sheet.specs.declared.slot.Slot.{Slot}
use Rattle.page_sheet.specs.Slots.{version_at}
use Rattle.tuple_header.specs.Version.{Version}
use Rattle.commit_status.specs.declared.status.Status.TheVariants.{InProgress, Committed, Aborted}
use Rattle.commit_status.specs.Window.{Window, IsCommitted, IsAborted, status_of}
use Rattle.visibility.specs.Visible.{IsFrozen}
use Rattle.hot_chain.specs.Chain.{has_aborted, is_aborted}
use Rattle.sound_page.specs.Links.{link}
use Rattle.sound_page.proofs.Links.{link-of}
use Rattle.commit_status.specs.declared.status.Status.{Status}

pub aborted-has : (w : Window) (x : ℕ) → IsAborted w x → has_aborted w x ≡ true
aborted-has w x e = ap is_aborted e

pub aborted-is : (s : Status) → is_aborted s ≡ true → s ≡ Aborted
aborted-is Aborted e = refl
aborted-is Committed e = absurd (cc)
aborted-is InProgress e = absurd (cc)

pub has-aborted : (w : Window) (x : ℕ) → has_aborted w x ≡ true → IsAborted w x
has-aborted w x e = aborted-is (status_of w x) e

-- 0 is no id, so it is not committed
pub committed-some : (w : Window) (x : ℕ) → IsCommitted w x → x ≢ 0
committed-some w x done same =
    let none : status_of w 0 ≡ InProgress = refl in
    let e : Committed ≡ InProgress = sym done ∙ ap (status_of w) same ∙ none in
    absurd (cc)

pub record IsUndoneAt (w : Window) (slots : List Slot) (n : ℕ) : Type 0 where
  pub version : Version
  pub there : version_at slots n ≡ Some version
  pub thawed : ¬ IsFrozen version.header
  pub aborted : IsAborted w version.header.xmin.0

-- a link leads to no version whose inserter is aborted
undone-unlinked : (w : Window) (slots : List Slot) (n k : ℕ) → link w slots n ≡ Some k → ¬ IsUndoneAt w slots k
undone-unlinked w slots n k next u =
    let l = link-of (has_aborted w) slots n k next in
    let same : u.version ≡ l.new = same_Some u.version l.new (sym u.there ∙ l.to) in
    let id : u.version.header.xmin.0 ≡ l.old.header.xmax.0 = ap (λ (v : Version). v.header.xmin.0) same ∙ l.made in
    let e : has_aborted w l.old.header.xmax.0 ≡ true = ap (has_aborted w) (sym id) ∙ aborted-has w u.version.header.xmin.0 u.aborted in
    let f : false ≡ true = sym l.live ∙ e in
    absurd (cc)

pub undone-alone : (w : Window) (slots : List Slot) (i n k : ℕ) → ReachesIn (link w slots) i n k → IsUndoneAt w slots k → IsUndoneAt w slots n
undone-alone w slots zero n k same u = subst (IsUndoneAt w slots) (sym same) u
undone-alone w slots (suc i) n k along u =
    absurd (undone-unlinked w slots n along.0 along.1 (undone-alone w slots i along.0 k along.2 u))
