-- What stays of a sound page where a prefix of each chain goes.
use Rattle.std.proofs.Common.{◌≡◌, ℕ, zero, suc, ◌+◌, ◌<◌, ◌≤◌, ◌&&◌, Bool, true, false, if◌then◌else◌, List, length, get_or, Option, Some, None, arith, ⊎_elim, sym, ap, ◌∙◌, refl, slice_get}
use Rattle.std.specs.Option.{option_and_then, option_map}
use Rattle.std.proofs.lemmas.Bool.{cases_lt, cases_eq, cases_Bool}
use Rattle.std.proofs.lemmas.Option.{none-some}
use Rattle.xid_circle.specs.Following.{ReachesIn}
use Rattle.page_sheet.specs.declared.slot.Slot.{Slot}
use Rattle.page_sheet.specs.Slots.{slot_at, version_at, version_of, header_at}
use Rattle.tuple_header.specs.Version.{Version}
use Rattle.tuple_header.specs.Marks.{is_heap_only}
use Rattle.tuple_header.specs.declared.version.Header.{Header}
use Rattle.commit_status.specs.Window.{Window}
use Rattle.hot_chain.specs.Chain.{has_aborted, is_replaced, is_made_by, is_root, successor, IsChain}
use Rattle.prune.specs.Actions.{acted}
use Rattle.prune.specs.Pruning.{root_action}
use Rattle.prune.specs.Thinning.{IsShortened, IsThinned}
use Rattle.sound_page.specs.Links.{link}
use Rattle.sound_page.specs.Sound.{SoundPage}
use Rattle.sound_page.proofs.Links.{IsLink, link-of}
use Rattle.sound_page.proofs.ChainPlaces.{place-of, first-normal, chain-first}
use Rattle.sound_page.proofs.SoundChains.{chain-exists, exact, in-leads, plain-root}
use Rattle.sound_page.proofs.Undone.{aborted-has}

-- The places of a chain.

-- a root of which something is cut holds no version any more
root-gone : (old : Option Slot) (prefix : ℕ) (o : Option ℕ) → 0 < prefix → option_and_then version_of (acted old (root_action prefix o)) ≡ None
root-gone old zero o some = absurd (omega arith)
root-gone old (suc prefix) None some = refl
root-gone old (suc prefix) (Some k) some = refl

-- a place whose version stays is not in the prefix that goes
pub place-kept : (w : Window) (horizon : ℕ) (slots after : List Slot) (root prefix i : ℕ) (chain : List ℕ) (t : Version) → IsShortened w horizon slots after root chain prefix
    → version_at after (get_or chain i 0) ≡ Some t → prefix ≤ i
place-kept w horizon slots after root prefix i chain t s at = ⊎_elim
    (λ lt. absurd (none-some t (sym (gone lt) ∙ at)))
    (λ ge. ge)
    (cases_lt i prefix)
  where
    gone : i < prefix → version_at after (get_or chain i 0) ≡ None
    gone lt = ⊎_elim
        (λ same. ap (version_at after) same ∙ ap (option_and_then version_of) s.leads ∙ root-gone (slot_at slots root) prefix (slice_get chain prefix) (omega arith))
        (λ off. ap (option_and_then version_of) (s.gone i lt off))
        (cases_eq (get_or chain i 0) root)

-- where a version stands in a chain of a sound page
pub record HasHome (w : Window) (slots : List Slot) (n : ℕ) : Type 0 where
  pub root : ℕ
  pub chain : List ℕ
  pub starts : is_root slots root ≡ true
  pub is_chain : IsChain (has_aborted w) slots root chain
  pub place : ℕ
  pub within : place < length chain
  pub is : get_or chain place 0 ≡ n

-- a version from which a link leads on is in a chain
pub link-home : (w : Window) (slots : List Slot) (n k : ℕ) → SoundPage w slots → link w slots n ≡ Some k → HasHome w slots n
link-home w slots n k sound next = ⊎_elim
    (λ heap_only. ⊎_elim
    (λ u.
    let e : false ≡ true = sym l.live ∙ aborted-has w l.old.header.xmax.0 (sound.undone n l.old l.from u.0 u.1 l.deleter) in
    absurd (cc))
    (λ r.
    let leads = in-leads w slots r.root n sound r.leads in
    let p = place-of n leads.chain leads.holds in
    record { root = r.root; chain = leads.chain; starts = leads.starts; is_chain = leads.is_chain; place = p.0; within = p.1; is = p.2 })
    (sound.owned n l.old l.from heap_only))
    (λ plain.
    let own = chain-exists (has_aborted w) slots n sound.few in
    let first = chain-first (has_aborted w) slots n n own.chain own.is (first-normal slots n l.old l.from) in
    record { root = n; chain = own.chain; starts = plain-root slots n l.old l.from plain; is_chain = own.is; place = 0; within = first.0; is = first.1 })
    (cases_Bool (is_heap_only l.old.header))
  where
    l : IsLink (has_aborted w) slots n k
    l = link-of (has_aborted w) slots n k next

module _ (w : Window) (horizon : ℕ) (slots after : List Slot) (sound : SoundPage w slots) (p : IsThinned w horizon slots after) where
  -- where a version stays, the next one does
  pub next-stays : (n k : ℕ) (t : Version) → link w slots n ≡ Some k → version_at after n ≡ Some t → version_at after k ≡ version_at slots k
  next-stays n k t next at =
      let home = link-home w slots n k sound next in
      let s = p.chains home.root home.chain home.starts home.is_chain in
      let le = place-kept w horizon slots after home.root s.0 home.place home.chain t s.1 (ap (version_at after) home.is ∙ at) in
      let later = exact w slots home.root home.chain home.place 1 k sound home.is_chain home.within (k, ap (link w slots) home.is ∙ next, refl) in
      ap (version_at after) later.is
      ∙ ap (option_and_then version_of) (s.1.kept (home.place + 1) (omega arith) later.within)
      ∙ ap (version_at slots) (sym later.is)

  -- a version that is kept leads on as before
  pub next-same : (n : ℕ) (t : Version) → version_at after n ≡ Some t → link w after n ≡ link w slots n
  next-same n t at = by (version_at after t.header.ctid.slot) refl
    where
      old : version_at slots n ≡ Some t
      old = p.removes.kept n t at

      branch : Option Header → Option ℕ
      branch o = if is_replaced (has_aborted w) t.header && is_made_by t.header.xmax.0 o then Some t.header.ctid.slot else None

      off : (b : Bool) (k : ℕ) → ((if b then Some k else None) ≡ Some k → ⊥) → (if b then Some k else None) ≡ None
      off true k never = absurd (never refl)
      off false k never = refl

      nothing : (b : Bool) (k : ℕ) → (if b && false then Some k else None) ≡ None
      nothing true k = refl
      nothing false k = refl

      branches : (page : List Slot) → version_at page n ≡ Some t → link w page n ≡ branch (header_at page t.header.ctid.slot)
      branches page e = ap (λ (o : Option Version). option_and_then (successor (has_aborted w) page) (option_map (λ v. v.header) o)) e

      by : (o : Option Version) → version_at after t.header.ctid.slot ≡ o → link w after n ≡ link w slots n
      by (Some u) to =
          let target = p.removes.kept t.header.ctid.slot u to in
          branches after at ∙ ap (λ (o : Option Version). branch (option_map (λ v. v.header) o)) (to ∙ sym target) ∙ sym (branches slots old)
      by None to =
          branches after at ∙ ap (λ (o : Option Version). branch (option_map (λ v. v.header) o)) to
          ∙ nothing (is_replaced (has_aborted w) t.header) t.header.ctid.slot
          ∙ sym (branches slots old ∙ off (is_replaced (has_aborted w) t.header && is_made_by t.header.xmax.0 (header_at slots t.header.ctid.slot)) t.header.ctid.slot (λ e.
          let next : link w slots n ≡ Some t.header.ctid.slot = branches slots old ∙ e in
          let l = link-of (has_aborted w) slots n t.header.ctid.slot next in
          none-some l.new (sym to ∙ next-stays n t.header.ctid.slot t next at ∙ l.to)))

  pub next-before : (n k : ℕ) → link w after n ≡ Some k → link w slots n ≡ Some k
  next-before n k e = let l = link-of (has_aborted w) after n k e in sym (next-same n l.old l.from) ∙ e

  pub next-after : (n k : ℕ) (t : Version) → link w slots n ≡ Some k → version_at after n ≡ Some t → link w after n ≡ Some k
  next-after n k t e at = next-same n t at ∙ e

  pub reaches-before : (i n k : ℕ) → ReachesIn (link w after) i n k → ReachesIn (link w slots) i n k
  reaches-before zero n k same = same
  reaches-before (suc i) n k along = (along.0, next-before n along.0 along.1, reaches-before i along.0 k along.2)

  pub reaches-after : (i n k : ℕ) (t : Version) → ReachesIn (link w slots) i n k → version_at after n ≡ Some t → ReachesIn (link w after) i n k
  reaches-after zero n k t same at = same
  reaches-after (suc i) n k t along at =
      let l = link-of (has_aborted w) slots n along.0 along.1 in (
        along.0,
        next-after n along.0 t along.1 at,
        reaches-after i along.0 k l.new along.2 (next-stays n along.0 t along.1 at ∙ l.to),
      )
