-- The first current version of a chain.
use Rattle.std.proofs.Common.{◌≡◌, ℕ, ◌<◌, Bool, true, false, List, [], ◌∷◌, length, get_or, Option, Some, None, refl, sym, ap, ◌∙◌, subst, arith}
use Rattle.std.specs.List.{Contains}
use Rattle.std.specs.Prelude.{MatchOption}
use Rattle.std.specs.Option.{option_map}
use Rattle.xid_circle.specs.declared.Tid.{Tid}
use Rattle.tuple_header.specs.Version.{Version}
use Rattle.tuple_header.specs.declared.version.Header.{Header}
use Rattle.tuple_header.specs.declared.version.Row.{Row}
use Rattle.tuple_header.specs.Marks.{is_hot_updated}
use Rattle.page_sheet.specs.declared.slot.Slot.{Slot}
use Rattle.page_sheet.specs.Slots.{version_at, header_at, row_at}
use Rattle.commit_status.specs.Window.{Window, next_id}
use Rattle.snapshot.specs.Snap.{Snap, empty_at}
use Rattle.visibility.specs.declared.reader.Reader.{Reader}
use Rattle.visibility.specs.Visible.{IsVisible}
use Rattle.visibility.specs.Reading.{IsSeenBy}
use Rattle.hot_chain.specs.Chain.{has_aborted, is_root, SeenAlong, LeadsTo}
use Rattle.hot_chain.proofs.Alone.{alone-chain}
use Rattle.hot_chain.proofs.Chains.{chain-one}
use Rattle.hot_chain.proofs.Seen.{seen-here}
use Rattle.sound_page.proofs.ChainPlaces.{place-of, at-place}
use Rattle.index_lookup.proofs.Among.{none-yet, none-here}
use Rattle.index_entries.specs.declared.entry.Entry.{Entry}
use Rattle.index_making.specs.Filling.{Joins}
use Rattle.table_indexes.specs.Indexes.{index_entry_of}
use Rattle.index_making.specs.Making.{IsCurrent}
use Rattle.index_making.specs.Listing.{ReadsCurrent, IsFirstCurrent, IsRowOfCurrent, LacksCurrent, AddsCurrent}

-- what such a reader sees along a chain is what is current
pub along-current : (w : Window) (r : Reader) (slots : List Slot) (root : ℕ) (answer : Option ℕ) → ReadsCurrent w r
    → SeenAlong (has_aborted r.statuses.now) (IsSeenBy r) slots root answer → SeenAlong (has_aborted w) (IsCurrent w) slots root answer
along-current w r slots root answer reads seen =
    subst (λ (v : Window). SeenAlong (has_aborted v) (IsVisible v (empty_at (next_id w)) []) slots root answer) reads.statuses
    (subst (λ (s : Snap). SeenAlong (has_aborted r.statuses.now) (IsVisible r.statuses.now s []) slots root answer) reads.snapshot
    (subst (λ (own : List ℕ). SeenAlong (has_aborted r.statuses.now) (IsVisible r.statuses.now r.snapshot.now own) slots root answer) reads.own seen))

-- A version that is its whole chain.

one-only : (n j : ℕ) → j < length (n ∷ []) → get_or (n ∷ []) j 0 ≡ n
one-only n j within = let first : j ≡ 0 = omega arith in ap (λ k. get_or (n ∷ []) k 0) first

pub alone-seen : (aborted : ℕ → Bool) (seen : Header → Type 0) (slots : List Slot) (root : ℕ) (h : Header) → header_at slots root ≡ Some h → is_hot_updated h ≡ false
    → seen h → SeenAlong aborted seen slots root (Some root)
alone-seen aborted seen slots root h at off has =
    (root ∷ [], alone-chain aborted slots root h at off, seen-here seen slots (root ∷ []) 0 (Some h) h (omega arith) (sym at) refl has (none-yet seen slots (root ∷ [])))

pub alone-unseen : (aborted : ℕ → Bool) (seen : Header → Type 0) (slots : List Slot) (root : ℕ) (h : Header) → header_at slots root ≡ Some h → is_hot_updated h ≡ false
    → ¬ seen h → SeenAlong aborted seen slots root None
alone-unseen aborted seen slots root h at off none =
    (root ∷ [], alone-chain aborted slots root h at off, λ j u within there. none-here seen slots root h at none u (sym (ap (version_at slots) (one-only root j within)) ∙ there))

-- Where none is current.

pub unseen-lacks : (w : Window) (slots : List Slot) (root : ℕ) → SeenAlong (has_aborted w) (IsCurrent w) slots root None → LacksCurrent w slots root
unseen-lacks w slots root (chain, is, none) n t leads at current =
    let one = chain-one (has_aborted w) slots root leads.chain chain leads.is_chain is in
    let p = place-of n chain (subst (λ (c : List ℕ). Contains c n) one leads.holds) in
    none p.0 t p.1 (ap (version_at slots) p.2 ∙ at) current

-- Where one is.

pub seen-row : (w : Window) (slots : List Slot) (root slot : ℕ) (answer : Option Row) → is_root slots root ≡ true → SeenAlong (has_aborted w) (IsCurrent w) slots root (Some slot)
    → answer ≡ row_at slots slot → MatchOption answer (LacksCurrent w slots root) (IsRowOfCurrent w slots root)
seen-row w slots root slot answer starts (chain, is, seen) row =
    let at : version_at slots slot ≡ Some seen.version = ap (version_at slots) seen.slot ∙ seen.first.there in
    let found : answer ≡ Some seen.version.row = row ∙ ap (option_map (λ (t : Version). t.row)) at in
    subst (λ (o : Option Row). MatchOption o (LacksCurrent w slots root) (IsRowOfCurrent w slots root)) (sym found) (record {
      version = seen.version;
      is_first = record { starts = starts; first = (chain, is, (seen.index, seen.first)) };
      is_row = refl;
    })

-- the chain leads to it
pub first-leads : (w : Window) (slots : List Slot) (root : ℕ) (t : Version) → IsFirstCurrent w slots root t
    → (n : ℕ) × LeadsTo (has_aborted w) slots root n × (version_at slots n ≡ Some t) × IsCurrent w t.header
first-leads w slots root t f =
    let chain = f.first.0 in
    let i = f.first.2.0 in
    let seen = f.first.2.1 in (
      get_or chain i 0,
      record { starts = f.starts; chain = chain; is_chain = f.first.1; holds = at-place (get_or chain i 0) chain i seen.within refl },
      seen.there,
      seen.is_seen,
    )

-- and its entry comes
pub row-entered : (w : Window) (slots : List Slot) (number : ℕ) (place : Tid) (entries entries' : List Entry) (row : Row) (entry : Entry) → IsRowOfCurrent w slots place.slot row
    → entry ≡ index_entry_of number row place → Joins entries entries' entry → AddsCurrent w slots number place entries entries'
row-entered w slots number place entries entries' row entry current is adds =
    AddsCurrent.enters current.version current.is_first
    (subst (Joins entries entries') (is ∙ ap (λ (r : Row). index_entry_of number r place) current.is_row) adds)
