-- Forgetting old ids leaves a table sound whose versions need none of them; and an index is exact from the cutoff on, where it
-- was from an earlier id.
use Rattle.std.proofs.Common.{◌≡◌, ◌≢◌, ◌⊎◌, ℕ, zero, suc, ◌<◌, ◌≤◌, false, List, [], length, Option, Some, None, arith, inl, inr, ⊎_elim, refl, sym, ap, ◌∙◌, subst}
use Rattle.std.specs.Prelude.{IsSome, unwrap_or}
use Rattle.std.proofs.lemmas.Bool.{cases_Bool, cases_lt}
use Rattle.xid_circle.specs.Following.{ReachesIn}
use Rattle.tuple_header.specs.Version.{Version}
use Rattle.tuple_header.specs.IndexValue.{value_in}
use Rattle.page_sheet.specs.declared.slot.Slot.{Slot}
use Rattle.page_sheet.specs.Slots.{version_at}
use Rattle.commit_status.specs.declared.status.Status.{Status}
use Rattle.commit_status.specs.declared.status.Status.TheVariants.{InProgress, Committed, Aborted}
use Rattle.commit_status.specs.Window.{Window, IsWindow, IsActive, IsGiven, IsAborted, IsUpToNext, place, status_of, turns, next_id}
use Rattle.commit_status.specs.Changes.{Truncates}
use Rattle.commit_status.proofs.Places.{at-from_place, is-from_some, some-from_is, upto-given, upto-next, precedes-turns}
use Rattle.commit_status.proofs.Giving.{finished-place}
use Rattle.commit_status.proofs.Tables.{window_of, table-dropped}
use Rattle.snapshot.specs.Snap.{Snap, is_before}
use Rattle.snapshot.proofs.Earliest.{before-precedes, precedes-before}
use Rattle.visibility.specs.Visible.{IsDead}
use Rattle.hot_chain.specs.Chain.{has_aborted}
use Rattle.sound_page.specs.Links.{link}
use Rattle.sound_page.specs.Sound.{IsIn}
use Rattle.sound_page.proofs.Links.{link-of, successor-from}
use Rattle.sound_page.proofs.Undone.{aborted-has, has-aborted, committed-some}
use Rattle.tuple_writes.proofs.Statuses.{replaced-live}
use Rattle.forgetting.specs.Pages.{AreYoung}
use Rattle.forgetting.proofs.Stays.{place-stays, stays-place, stays-known}
use Rattle.forgetting.proofs.Tops.{upto-kept}
use Rattle.forgetting.proofs.PageLemmas.{forgetting-sound}
use Rattle.index_entries.specs.declared.entry.Entry.{Entry}
use Rattle.index_lookup.specs.Pages.{slots_on}
use Rattle.sound_entries.specs.Entries.{SoundHeap, IsExcused, SoundEntries}
use Rattle.sound_entries.specs.Since.{HaveEndedBefore, IsExactSince, MayScanSince}
use Rattle.sound_entries.proofs.Going.{StaysExcused, page-same, stay-sound}
use Rattle.table_indexes.specs.Indexes.{entries_in, since_at, since_after, IsInUse}
use Rattle.heap_write.specs.Heap.{HeapView, slots_of}
use Rattle.heap_write.specs.Cleaning.{ForgetsBefore}
use Rattle.table_integrity.specs.Table.{SoundTable}

-- Ids.

pub committed-ended : Committed ≢ InProgress
committed-ended e = absurd (cc)

pub aborted-ended : Aborted ≢ InProgress
aborted-ended e = absurd (cc)

pub aborted-some : (w : Window) (x : ℕ) → IsAborted w x → x ≢ 0
aborted-some w x gone same = let e : Aborted ≡ InProgress = sym gone ∙ ap (status_of w) same in aborted-ended e

-- what is left of a window is one
pub truncated-window : (w v : Window) (c : ℕ) → IsWindow w → Truncates w v c → IsUpToNext w c → IsWindow v
truncated-window w v c is t up =
    let dropped = table-dropped w.first w.stop_age w.entries v.entries w.spare v.spare (next_id w) c (turns w.first c) (record { window = is; normal = (upto-next w is).normal; next_is = refl }) up refl t.entries in
    subst (λ f. IsWindow (window_of f v.stop_age v.entries v.spare)) (sym t.first) (subst (λ s. IsWindow (window_of c s v.entries v.spare)) (sym t.stop_age) dropped.window)

-- from which id on an index is exact afterwards: from c, where it was from an earlier one, and else as before
data After (w : Window) (c id : ℕ) (after : Option ℕ) : Type 0 where
  is_cutoff : turns w.first id < turns w.first c → after ≡ Some c → After w c id after
  is_old : turns w.first c ≤ turns w.first id → after ≡ Some id → After w c id after

module _ (w v : Window) (c : ℕ) (is : IsWindow w) (up : IsUpToNext w c) (t : Truncates w v c) where
  iv : IsWindow v
  iv = truncated-window w v c is t up

  -- an id that is not before the cutoff stays
  pub given-stays : (x : ℕ) → IsGiven w x → turns w.first c ≤ turns w.first x → IsGiven v x
  given-stays x there late =
      let i = some-from_is (place w x) there in
      let turn = (at-from_place w.first (length w.entries) x i.0 i.1).turn in
      is-from_some (place v x) _ (place-stays w v c is iv t up x i.0 i.1 (omega (arith, turn, late)))

  -- what had finished and stays has its status
  pub ended-stays : (x : ℕ) (status : Status) → status_of w x ≡ status → status ≢ InProgress → turns w.first c ≤ turns w.first x → status_of v x ≡ status
  ended-stays x status e ended late =
      let at = finished-place w x (λ active. ended (sym e ∙ active)) in
      (stays-known w v c x is iv t up (given-stays x (is-from_some (place w x) at.0 at.1) late)).1 ∙ e

  -- what stays was there, and is not before the cutoff
  stays-late : (x : ℕ) → IsGiven v x → IsGiven w x × (turns w.first c ≤ turns w.first x)
  stays-late x there =
      let j = some-from_is (place v x) there in
      let at = stays-place w v c is iv t up x j.0 j.1 in
      let turn = (at-from_place w.first (length w.entries) x _ at).turn in
      (is-from_some (place w x) _ at, omega (arith, turn))

  active-was : (x : ℕ) → IsActive v x → IsActive w x
  active-was x active = record { is_given = (stays-late x active.is_given).0; unfinished = sym (stays-known w v c x is iv t up active.is_given).1 ∙ active.unfinished }

  -- of ids that stay, that is before which was
  turns-kept : (x y : ℕ) → IsUpToNext w x → IsUpToNext w y → turns w.first c ≤ turns w.first x → turns w.first x ≤ turns w.first y → turns v.first x ≤ turns v.first y
  turns-kept x y ux uy late order =
      let a = (upto-kept w v c x is t up ux late).0 in
      let b = (upto-kept w v c y is t up uy (omega (arith, late, order))).0 in
      omega (arith, a, b, late, order)

  -- The id from which on an index is exact.

  after-cases : (id : ℕ) → IsUpToNext w id → After w c id (since_after c (Some id))
  after-cases id ui = ⊎_elim
      (λ yes. After.is_cutoff ((precedes-turns w id c is ui up).0 (before-precedes id c yes)) (rw yes refl))
      (λ no'. After.is_old (not-before no' (cases_lt (turns w.first id) (turns w.first c))) (rw no' refl))
      (cases_Bool (is_before id c))
    where
      not-before : is_before id c ≡ false → (turns w.first id < turns w.first c) ⊎ (turns w.first c ≤ turns w.first id) → turns w.first c ≤ turns w.first id
      not-before other (inl less) = absurd (let yes = precedes-before id c ((precedes-turns w id c is ui up).1 less) in cc)
      not-before other (inr late) = late

  ended-after : (id : ℕ) (after : Option ℕ) → HaveEndedBefore w id → After w c id after → IsExactSince v after
  ended-after id after exact (After.is_cutoff less is_c) = subst (λ (o : Option ℕ). IsExactSince v o) (sym is_c) (record {
    upto = (upto-kept w v c c is t up up (omega arith)).1;
    ended = λ x active. let old = stays-late x active.is_given in turns-kept c x up (upto-given w x old.0) (omega arith) old.1;
  })
  ended-after id after exact (After.is_old on is_id) = subst (λ (o : Option ℕ). IsExactSince v o) (sym is_id) (record {
    upto = (upto-kept w v c id is t up exact.upto on).1;
    ended = λ x active. let old = active-was x active in turns-kept id x exact.upto (upto-given w x old.is_given) on (exact.ended x old);
  })

  pub since-kept : (since : Option ℕ) → IsExactSince w since → IsExactSince v (since_after c since)
  since-kept None exact = tt
  since-kept (Some id) exact = ended-after id (since_after c (Some id)) exact (after-cases id exact.upto)

  scan-after : (id : ℕ) (after : Option ℕ) (s : Snap) → IsUpToNext w id → IsUpToNext w s.xmin → turns w.first c ≤ turns w.first s.xmin → turns w.first id ≤ turns w.first s.xmin
      → After w c id after → MayScanSince v after s
  scan-after id after s ui us low may (After.is_cutoff less is_c) = subst (λ (o : Option ℕ). MayScanSince v o s) (sym is_c) (turns-kept c s.xmin up us (omega arith) low)
  scan-after id after s ui us low may (After.is_old on is_id) = subst (λ (o : Option ℕ). MayScanSince v o s) (sym is_id) (turns-kept id s.xmin ui us on may)

  pub scan-kept : (since : Option ℕ) (s : Snap) → IsExactSince w since → IsUpToNext w s.xmin → turns w.first c ≤ turns w.first s.xmin → MayScanSince w since s → MayScanSince v (since_after c since) s
  scan-kept None s exact us low may = tt
  scan-kept (Some id) s exact us low may = scan-after id (since_after c (Some id)) s exact.upto us low may (after-cases id exact.upto)

  -- What is excused.

  -- a deleter that is remembered is not before the cutoff, so an id after it is not either
  dead-after : (id : ℕ) (after : Option ℕ) (r : Version) → IsUpToNext w id → After w c id after → IsDead v id r.header → IsExcused v after r
  dead-after id after r ui (After.is_old on is_id) dead = subst (λ (o : Option ℕ). IsExcused v o r) (sym is_id) dead
  dead-after id after r ui (After.is_cutoff less is_c) (IsDead.never_was thawed gone) = subst (λ (o : Option ℕ). IsExcused v o r) (sym is_c) (IsDead.never_was thawed gone)
  dead-after id after r ui (After.is_cutoff less is_c) (IsDead.is_past done before) =
      let at = finished-place v r.header.xmax.0 (λ active. committed-ended (sym done ∙ active)) in
      let old = stays-late r.header.xmax.0 (is-from_some (place v r.header.xmax.0) at.0 at.1) in
      let order = (precedes-turns w r.header.xmax.0 id is (upto-given w r.header.xmax.0 old.0) ui).0 before in
      absurd (let late = old.1 in omega (arith, order, late, less))

  excused-after : (since : Option ℕ) (r : Version) → IsExactSince w since → IsExcused v since r → IsExcused v (since_after c since) r
  excused-after None r exact none = none
  excused-after (Some id) r exact dead = dead-after id (since_after c (Some id)) r exact.upto (after-cases id exact.upto) dead

  -- Pages.

  excused-stays : (slots : List Slot) → AreYoung w c slots → (since : Option ℕ) → StaysExcused since w v slots
  excused-stays slots young None n r at none = none
  excused-stays slots young (Some id) n r at (IsDead.never_was thawed gone) = IsDead.never_was thawed
      (ended-stays r.header.xmin.0 Aborted gone aborted-ended (young.makers n r at thawed))
  excused-stays slots young (Some id) n r at (IsDead.is_past done before) = IsDead.is_past
      (ended-stays r.header.xmax.0 Committed done committed-ended (young.deleters n r at (committed-some w r.header.xmax.0 done))) before

  -- each deleter that was rolled back stays so, and so no link comes
  deleter-stays : (slots : List Slot) → AreYoung w c slots → (n : ℕ) (r : Version) → version_at slots n ≡ Some r → IsAborted w r.header.xmax.0 → IsAborted v r.header.xmax.0
  deleter-stays slots young n r at gone = ended-stays r.header.xmax.0 Aborted gone aborted-ended (young.deleters n r at (aborted-some w r.header.xmax.0 gone))

  link-back : (slots : List Slot) → AreYoung w c slots → (n k : ℕ) → link v slots n ≡ Some k → link w slots n ≡ Some k
  link-back slots young n k next =
      let l = link-of (has_aborted v) slots n k next in
      let live : has_aborted w l.old.header.xmax.0 ≡ false = ⊎_elim
      (λ gone. let too = aborted-has v l.old.header.xmax.0 (deleter-stays slots young n l.old l.from (has-aborted w l.old.header.xmax.0 gone)) in let alive = l.live in absurd (cc))
      (λ e. e) (cases_Bool (has_aborted w l.old.header.xmax.0)) in
      successor-from (has_aborted w) slots n k l.old l.new l.from l.to (replaced-live (has_aborted v) (has_aborted w) l.old.header l.replaced live) l.place l.heap_only l.made

  along-back : (slots : List Slot) → AreYoung w c slots → (i n k : ℕ) → ReachesIn (link v slots) i n k → ReachesIn (link w slots) i n k
  along-back slots young zero n k same = same
  along-back slots young (suc i) n k along = (along.0, link-back slots young n along.0 along.1, along-back slots young i along.0 k along.2)

  pub in-back : (slots : List Slot) → AreYoung w c slots → (root n : ℕ) → IsIn v slots root n → IsIn w slots root n
  in-back slots young root n i = record { entry = i.entry; leads = i.leads; later = record { turns = i.later.turns; along = along-back slots young i.later.turns i.entry n i.later.along } }

  -- Entries.

  excused-more : (number : ℕ) (since : Option ℕ) (pages : List (List Slot)) (entries : List Entry) → IsExactSince w since
      → SoundEntries (value_in number) since v pages entries → SoundEntries (value_in number) (since_after c since) v pages entries
  excused-more number since pages entries exact sound = record {
    leads = sound.leads;
    led = λ p n r i at. ⊎_elim (λ excused. inl (excused-after since r exact excused)) (λ some. inr some) (sound.led p n r i at);
    one = sound.one;
    alike = λ e n r there i at. ⊎_elim (λ excused. inl (excused-after since r exact excused)) (λ of. inr of) (sound.alike e n r there i at);
  }

  entries-kept : (number : ℕ) (since : Option ℕ) (pages : List (List Slot)) (entries : List Entry) → ((n : ℕ) → AreYoung w c (slots_on pages n)) → IsExactSince w since
      → SoundEntries (value_in number) since w pages entries → SoundEntries (value_in number) (since_after c since) v pages entries
  entries-kept number since pages entries young exact sound = excused-more number since pages entries exact
      (stay-sound (value_in number) since w v pages pages entries sound
      (λ m. page-same (value_in number) since w v (slots_on pages m) (λ n. ⊥) (in-back (slots_on pages m) (young m)) (excused-stays (slots_on pages m) (young m) since)))

-- The table.

same-slots : (h h' : HeapView) (c : ℕ) → ForgetsBefore h h' c → slots_of h' ≡ slots_of h
same-slots h h' c f = ap slots_of f.is

pub forgotten-table : (h h' : HeapView) (c : ℕ) → SoundTable h → IsWindow h.statuses → IsUpToNext h.statuses c
    → ((n : ℕ) → AreYoung h.statuses c (slots_on (slots_of h) n)) → ((n : ℕ) → IsExactSince h.statuses (since_at h.indexes n))
    → ForgetsBefore h h' c → SoundTable h'
forgotten-table h h' c sound is up young exact f = record {
  heap = subst (λ pages. SoundHeap h'.statuses pages) (sym (same-slots h h' c f))
      (λ n. forgetting-sound h.statuses h'.statuses c (slots_on (slots_of h) n) is (truncated-window h.statuses h'.statuses c is f.truncates up) f.truncates up (young n) (sound.heap n));
  indexes = λ n used.
      let was : IsInUse h.indexes n = subst (λ (o : Option (List Entry)). IsSome o) (f.entries n) used in
      let kept = entries-kept h.statuses h'.statuses c is up f.truncates n (since_at h.indexes n) (slots_of h) (entries_in h.indexes n) young (exact n) (sound.indexes n was) in
      subst (λ (o : Option (List Entry)). SoundEntries (value_in n) (since_at h'.indexes n) h'.statuses (slots_of h') (unwrap_or o [])) (sym (f.entries n))
      (subst (λ s. SoundEntries (value_in n) s h'.statuses (slots_of h') (entries_in h.indexes n)) (sym (f.since n))
      (subst (λ pages. SoundEntries (value_in n) (since_after c (since_at h.indexes n)) h'.statuses pages (entries_in h.indexes n)) (sym (same-slots h h' c f)) kept));
}

pub forgotten-since : (w v : Window) (c : ℕ) (since : Option ℕ) → IsWindow w → IsUpToNext w c → Truncates w v c → IsExactSince w since → IsExactSince v (since_after c since)
forgotten-since w v c since is up t exact = since-kept w v c is up t since exact

pub forgotten-scan : (w v : Window) (c : ℕ) (since : Option ℕ) (s : Snap) → IsWindow w → IsUpToNext w c → Truncates w v c → IsExactSince w since
    → IsUpToNext w s.xmin → turns w.first c ≤ turns w.first s.xmin → MayScanSince w since s → MayScanSince v (since_after c since) s
forgotten-scan w v c since s is up t exact us low may = scan-kept w v c is up t since s exact us low may
