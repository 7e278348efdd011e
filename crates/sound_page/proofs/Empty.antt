-- A page without slots is sound.
use Rattle.std.proofs.Common.{◌≡◌, ℕ, zero, suc, [], Some, arith}
use Rattle.std.proofs.lemmas.Option.{none-some}
use Rattle.tuple_header.specs.Version.{Version}
use Rattle.page_sheet.specs.declared.slot.Slot.{Slot}
use Rattle.page_sheet.specs.declared.slot.Slot.TheVariants.{Redirect}
use Rattle.page_sheet.specs.Slots.{slot_at, version_at}
use Rattle.commit_status.specs.Window.{Window}
use Rattle.sound_page.specs.Links.{link}
use Rattle.sound_page.specs.Sound.{IsIn, SoundPage}
use Rattle.sound_page.proofs.Links.{link-of}

none-at : {P : Type 0} (n : ℕ) (s : Slot) → slot_at [] n ≡ Some s → P
none-at zero s at = absurd (none-some s at)
none-at (suc n) s at = absurd (none-some s at)

pub no-version : {P : Type 0} (n : ℕ) (t : Version) → version_at [] n ≡ Some t → P
no-version zero t at = absurd (none-some t at)
no-version (suc n) t at = absurd (none-some t at)

no-link : {P : Type 0} (w : Window) (n k : ℕ) → link w [] n ≡ Some k → P
no-link w n k next = let l = link-of _ [] n k next in no-version n l.old l.from

no-chain : {P : Type 0} (w : Window) (root n : ℕ) → IsIn w [] root n → P
no-chain w zero n i = absurd (none-some i.entry i.leads)
no-chain w (suc root) n i = absurd (none-some i.entry i.leads)

pub empty-page : (w : Window) → SoundPage w []
empty-page w = record {
  few = omega arith;
  made = λ n t at done. no-version n t at;
  undone = λ n t at thawed gone some. no-version n t at;
  unfrozen = λ n k u next at. no-link w n k next;
  whole = λ n t at replaced. no-version n t at;
  ends = λ n k next back. no-link w n k next;
  redirects = λ n k at. none-at n (Redirect k) at;
  owned = λ n t at heap_only. no-version n t at;
  alone = λ a b n x y. no-chain w a n x;
}
