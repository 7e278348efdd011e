-- What is known of the pages stays true.
use Rattle.std.proofs.Common.{◌≡◌, ◌≢◌, ℕ, ◌+◌, ◌≤◌, min, Bool, false, inl, inr, ◌⊎◌, ⊎_elim, List, [], ◌∷◌, ◌++◌, length, set, Option, Some, None, sym, ap, subst, refl, ◌∙◌, arith}
use Rattle.std.proofs.Math.Nat.{min-le_left, min-le_right}
use Rattle.std.proofs.Math.Seq.{get_or-append_seam}
use Rattle.std.proofs.lemmas.Bool.{cases_lt, cases_eq}
use Rattle.std.proofs.lemmas.Option.{same_Some, none-some, slice_get_within}
use Rattle.std.proofs.lemmas.List.{get_or_past, get_or-set_same, get_or-set_other, get_or_append_left, length-set, length_push}
use Rattle.std.specs.Prelude.{slice_get}
use Rattle.xid_circle.specs.declared.Tid.{Tid}
use Rattle.tuple_header.specs.declared.version.Row.{Row}
use Rattle.tuple_writes.specs.Writes.{with_root, with_updated}
use Rattle.page_slots.specs.View.{PageView}
use Rattle.page_sheet.specs.Slots.{IsNormalAt}
use Rattle.commit_status.specs.declared.status.Status.{Status}
use Rattle.commit_status.specs.declared.status.Status.TheVariants.{Aborted}
use Rattle.commit_status.specs.Window.{Window, IsWindow, IsAborted, IsUpToNext, turns}
use Rattle.commit_status.specs.Changes.{Finishes}
use Rattle.snapshot.specs.Own.{Own, current_xid}
use Rattle.space_maps.specs.Hints.{PageHint, nothing_known, hint_on, lowered}
use Rattle.heap_pages.specs.View.{PagesView}
use Rattle.prune_actions.specs.declared.Action.{Action}
use Rattle.prune.specs.Actions.{CanApply, applied}
use Rattle.prune.specs.Deaths.{NothingDiesBefore}
use Rattle.prune.specs.Glances.{AreDoubts}
use Rattle.heap_write.specs.Heap.{HeapView, unused_page, PutsPage}
use Rattle.write_ids.specs.Ids.{SameIds, TakesIds}
use Rattle.heap_write.specs.Heap.PutsPage.{in_use, after_all}
use Rattle.heap_write.specs.Growth.{page_in, SamePages, PutsVersion}
use Rattle.heap_write.specs.Steps.{HasNoneDead}
use Rattle.heap_write.specs.Hints.{AreTrueHints, IsLowered, AreDoubtedBy, AreStillDoubts, ExpectsRoot, ExpectsWrite}
use Rattle.heap_write.proofs.Dying.{AgesOn, dies-on, ages-given, ages-finished, ages-same, none-dead, dies-earlier, dies-root, dies-replaced, dies-updated}
use Rattle.heap_write.proofs.DoubtLemmas.{applied-version, doubts-on, doubts-root, doubts-replaced, doubts-updated}
use Rattle.heap_write.proofs.PageLemmas.{page-at}
use Rattle.heap_write.proofs.Writing.{WritesXmax}
use Rattle.heap_write.proofs.IdlePages.{idle-at}

-- No version comes, and none is aborted.

pub hints-on : (w v : Window) (pages pages' : List PageView) (hints hints' : List PageHint) → ((turn : ℕ) → turn ≤ length w.entries → AgesOn w v turn)
    → ((n : ℕ) → (page_in pages' n).slots ≡ (page_in pages n).slots) → ((n : ℕ) → hint_on hints' n ≡ hint_on hints n) → AreTrueHints w pages hints → AreTrueHints v pages' hints'
hints-on w v pages pages' hints hints' ages same kept are = record {
  each = λ n turn known.
      let dies = are.each n turn (sym (ap (λ (h : PageHint). h.turn) (kept n)) ∙ known) in
      subst (λ slots. NothingDiesBefore v turn slots) (sym (same n)) (dies-on w v turn (page_in pages n).slots (ages turn dies.reached) dies);
  doubts = λ n.
      subst (λ (h : PageHint). AreDoubts v (page_in pages' n).slots h.doubts) (sym (kept n))
      (subst (λ slots. AreDoubts v slots (hint_on hints n).doubts) (sym (same n))
      (doubts-on w v (page_in pages n).slots (page_in pages n).slots (hint_on hints n).doubts (ages 0 (omega arith)).aborted (λ m t at. at) (are.doubts n)));
}

pub hints-taken : (w v : Window) (own own' : Own) (x : ℕ) (pages : List PageView) (hints : List PageHint) → TakesIds w v own own' x → IsWindow v
    → AreTrueHints w pages hints → AreTrueHints v pages hints
hints-taken w v own own' x pages hints takes is =
    hints-on w v pages pages hints hints (λ turn reached. ages-given takes.given w v (current_xid own.ids own.saved) turn reached takes.gives is) (λ n. refl) (λ n. refl)

pub hints-finished : (w v : Window) (ids : List ℕ) (status : Status) (pages : List PageView) (hints : List PageHint) → status ≢ Aborted → Finishes w v ids status
    → AreTrueHints w pages hints → AreTrueHints v pages hints
hints-finished w v ids status pages hints live f =
    hints-on w v pages pages hints hints (λ turn reached. ages-finished w v ids status turn live f) (λ n. refl) (λ n. refl)

-- there is more memory
pub hints-grown : (w v : Window) (pages pages' : PagesView) (hints hints' : List PageHint) → SameIds w v → SamePages pages pages' → hints' ≡ hints
    → AreTrueHints w pages.pages hints → AreTrueHints v pages'.pages hints'
hints-grown w v pages pages' hints hints' ids same kept =
    hints-on w v pages.pages pages'.pages hints hints' (λ turn reached. ages-same w v turn ids) (λ n. ap (λ (ps : List PageView). (page_in ps n).slots) same.pages)
    (λ n. ap (λ (hs : List PageHint). hint_on hs n) kept)

-- the ids alone have more
pub hints-same_ids : (w v : Window) (pages : List PageView) (hints : List PageHint) → SameIds w v → AreTrueHints w pages hints → AreTrueHints v pages hints
hints-same_ids w v pages hints ids = hints-on w v pages pages hints hints (λ turn reached. ages-same w v turn ids) (λ n. refl) (λ n. refl)

-- a page is changed, nothing on it dies earlier, and nothing else may be dead
pub hints-kept : (w : Window) (pages pages' : List PageView) (hints : List PageHint) (n : ℕ) (page page' : PageView) → slice_get pages n ≡ Some page → pages' ≡ set pages n page'
    → ((turn : ℕ) → NothingDiesBefore w turn page.slots → NothingDiesBefore w turn page'.slots)
    → ((doubts : Option (List ℕ)) → AreDoubts w page.slots doubts → AreDoubts w page'.slots doubts) → AreTrueHints w pages hints → AreTrueHints w pages' hints
hints-kept w pages pages' hints n page page' at is keeps keeps_doubts are = record {
  each = λ m turn known. ⊎_elim
      (λ here. subst (λ (p : PageView). NothingDiesBefore w turn p.slots) (sym (now m here))
      (keeps turn (subst (λ (p : PageView). NothingDiesBefore w turn p.slots) (was m here) (are.each m turn known))))
      (λ other. subst (λ (p : PageView). NothingDiesBefore w turn p.slots) (sym (same m other)) (are.each m turn known))
      (cases_eq m n);
  doubts = λ m. ⊎_elim
      (λ here. subst (λ (p : PageView). AreDoubts w p.slots (hint_on hints m).doubts) (sym (now m here))
      (keeps_doubts (hint_on hints m).doubts (subst (λ (p : PageView). AreDoubts w p.slots (hint_on hints m).doubts) (was m here) (are.doubts m))))
      (λ other. subst (λ (p : PageView). AreDoubts w p.slots (hint_on hints m).doubts) (sym (same m other)) (are.doubts m))
      (cases_eq m n);
}
  where
    was : (m : ℕ) → m ≡ n → page_in pages m ≡ page
    was m here = ap (page_in pages) here ∙ page-at pages n page at

    now : (m : ℕ) → m ≡ n → page_in pages' m ≡ page'
    now m here = ap (page_in pages') here ∙ (ap (λ ps. page_in ps n) is ∙ get_or-set_same pages n page' unused_page (slice_get_within pages n page at))

    same : (m : ℕ) → m ≢ n → page_in pages' m ≡ page_in pages m
    same m other = ap (λ ps. page_in ps m) is ∙ get_or-set_other pages n m page' unused_page other

-- actions are done on a page: no version comes
pub hints-applied : (w : Window) (pages pages' : List PageView) (hints : List PageHint) (n : ℕ) (actions : List (ℕ × Action)) (page : PageView) → slice_get pages n ≡ Some page
    → pages' ≡ set pages n (applied actions page) → CanApply (length page.slots) actions → AreTrueHints w pages hints → AreTrueHints w pages' hints
hints-applied w pages pages' hints n actions page at is can =
    hints-kept w pages pages' hints n page (applied actions page) at is
    (λ turn dies. record { reached = dies.reached; each = λ m t there. dies.each m t (applied-version actions page m t can there) })
    (λ doubts. doubts-on w w page.slots (applied actions page).slots doubts (λ x undone. undone) (λ m t. applied-version actions page m t can))

-- Nothing is known.

pub hints-none : (w : Window) (pages : List PageView) (hints : List PageHint) → ((n : ℕ) → hint_on hints n ≡ nothing_known) → AreTrueHints w pages hints
hints-none w pages hints none = record {
  each = λ n turn known. absurd (none-some turn (sym (ap (λ (h : PageHint). h.turn) (none n)) ∙ known));
  doubts = λ n. subst (λ (h : PageHint). AreDoubts w (page_in pages n).slots h.doubts) (sym (none n)) tt;
}

-- One hint.

-- what is known where a hint was put, beyond the last page nothing
put-hint : (hints : List PageHint) (n : ℕ) (hint : PageHint) → (hint_on (set hints n hint) n ≡ hint) ⊎ (hint_on (set hints n hint) n ≡ nothing_known)
put-hint hints n hint = ⊎_elim (λ within. inl (get_or-set_same hints n hint nothing_known within))
    (λ past. inr (get_or_past (set hints n hint) n nothing_known (let long = length-set hints n hint in omega (arith, past, long))))
    (cases_lt n (length hints))

-- a hint is put of a page, which may be changed: what it says is true
hints-put : (w : Window) (pages pages' : List PageView) (hints hints' : List PageHint) (n : ℕ) (hint : PageHint) → hints' ≡ set hints n hint
    → ((m : ℕ) → m ≢ n → page_in pages' m ≡ page_in pages m)
    → ((turn : ℕ) → hint.turn ≡ Some turn → NothingDiesBefore w turn (page_in pages' n).slots) → AreDoubts w (page_in pages' n).slots hint.doubts
    → AreTrueHints w pages hints → AreTrueHints w pages' hints'
hints-put w pages pages' hints hints' n hint put same dies doubts are = record {
  each = λ m turn known. ⊎_elim
      (λ here. subst (λ k. NothingDiesBefore w turn (page_in pages' k).slots) (sym here)
      (⊎_elim
      (λ is. dies turn (sym (ap (λ (h : PageHint). h.turn) (at ∙ is)) ∙ (ap (λ k. (hint_on hints' k).turn) (sym here) ∙ known)))
      (λ none. absurd (none-some turn (sym (ap (λ (h : PageHint). h.turn) (at ∙ none)) ∙ (ap (λ k. (hint_on hints' k).turn) (sym here) ∙ known))))
      (put-hint hints n hint)))
      (λ other. subst (λ (p : PageView). NothingDiesBefore w turn p.slots) (sym (same m other))
      (are.each m turn (sym (ap (λ (h : PageHint). h.turn) (off m other)) ∙ known)))
      (cases_eq m n);
  doubts = λ m. ⊎_elim
      (λ here. subst (λ k. AreDoubts w (page_in pages' k).slots (hint_on hints' k).doubts) (sym here)
      (⊎_elim
      (λ is. subst (λ (h : PageHint). AreDoubts w (page_in pages' n).slots h.doubts) (sym (at ∙ is)) doubts)
      (λ none. subst (λ (h : PageHint). AreDoubts w (page_in pages' n).slots h.doubts) (sym (at ∙ none)) tt)
      (put-hint hints n hint)))
      (λ other. subst (λ (p : PageView). AreDoubts w p.slots (hint_on hints' m).doubts) (sym (same m other))
      (subst (λ (h : PageHint). AreDoubts w (page_in pages m).slots h.doubts) (sym (off m other)) (are.doubts m)))
      (cases_eq m n);
}
  where
    at : hint_on hints' n ≡ hint_on (set hints n hint) n
    at = ap (λ (hs : List PageHint). hint_on hs n) put

    off : (m : ℕ) → m ≢ n → hint_on hints' m ≡ hint_on hints m
    off m other = ap (λ (hs : List PageHint). hint_on hs m) put ∙ get_or-set_other hints n m hint nothing_known other

set-other : (pages pages' : List PageView) (n m : ℕ) (page : PageView) → pages' ≡ set pages n page → m ≢ n → page_in pages' m ≡ page_in pages m
set-other pages pages' n m page is other = ap (λ ps. page_in ps m) is ∙ get_or-set_other pages n m page unused_page other

-- a page changes of which nothing is known any more
pub hints-ended : (w : Window) (pages pages' : List PageView) (hints hints' : List PageHint) (n : ℕ) (page : PageView) → pages' ≡ set pages n page → hints' ≡ set hints n nothing_known
    → AreTrueHints w pages hints → AreTrueHints w pages' hints'
hints-ended w pages pages' hints hints' n page is end =
    hints-put w pages pages' hints hints' n nothing_known end (λ m. set-other pages pages' n m page is) (λ turn known. absurd (none-some turn known)) tt

-- a turn is noted of a page
pub hints-noted : (w : Window) (pages : List PageView) (hints hints' : List PageHint) (n noted : ℕ) (page : PageView) → slice_get pages n ≡ Some page → NothingDiesBefore w noted page.slots
    → hints' ≡ set hints n (record (hint_on hints n) { turn = Some noted }) → AreTrueHints w pages hints → AreTrueHints w pages hints'
hints-noted w pages hints hints' n noted page at dies put are =
    hints-put w pages pages hints hints' n (record (hint_on hints n) { turn = Some noted }) put (λ m other. refl)
    (λ turn known. subst (λ (p : PageView). NothingDiesBefore w turn p.slots) (sym (page-at pages n page at)) (subst (λ t. NothingDiesBefore w t page.slots) (same_Some noted turn known) dies))
    (are.doubts n) are

-- doubts are
pub hints-doubted : (w : Window) (pages : List PageView) (hints hints' : List PageHint) (n : ℕ) (doubts : Option (List ℕ)) (page : PageView) → slice_get pages n ≡ Some page
    → AreDoubts w page.slots doubts → hints' ≡ set hints n (record (hint_on hints n) { doubts = doubts }) → AreTrueHints w pages hints → AreTrueHints w pages hints'
hints-doubted w pages hints hints' n doubts page at true put are =
    hints-put w pages pages hints hints' n (record (hint_on hints n) { doubts = doubts }) put (λ m other. refl) (λ turn known. are.each n turn known)
    (subst (λ (p : PageView). AreDoubts w p.slots doubts) (sym (page-at pages n page at)) true) are

-- A write by x.

ended : (hints hints' : List PageHint) (n : ℕ) → hints' ≡ set hints n nothing_known → hint_on hints' n ≡ nothing_known
ended hints hints' n end = ap (λ (hs : List PageHint). hint_on hs n) end ∙ ⊎_elim (λ is. is) (λ is. is) (put-hint hints n nothing_known)

lowest : (w : Window) (x turn_of turn : ℕ) (known : Option ℕ) → ¬ IsAborted w x → turn_of ≡ turns w.first x → lowered known turn_of ≡ Some turn → IsLowered w x turn known
lowest w x turn_of turn None live is low = absurd (none-some turn low)
lowest w x turn_of turn (Some was) live is low =
    let same : min was turn_of ≡ turn = same_Some (min was turn_of) turn low in record {
      was = was;
      is_known = refl;
      earlier = subst (λ t. t ≤ was) same (min-le_left was turn_of);
      live = live;
      later = subst (λ t. turn ≤ t) is (subst (λ t. t ≤ turn_of) same (min-le_right was turn_of));
    }

-- x makes a root, of what is known of its page.

still : (w : Window) (x : ℕ) (known : Option (List ℕ)) → ¬ IsAborted w x → AreStillDoubts w x known known
still w x None live = tt
still w x (Some known) live = (live, refl)

put-here : (pages pages' : PagesView) (n : ℕ) (page : PageView) → PutsPage pages pages' n page → page_in pages'.pages n ≡ page
put-here pages pages' n page (in_use within is marks) = ap (λ ps. page_in ps n) is ∙ get_or-set_same pages.pages n page unused_page within
put-here pages pages' n page (after_all over is marks) =
    ap (λ ps. page_in ps n) is ∙ (ap (page_in (pages.pages ++ page ∷ [])) over ∙ get_or-append_seam pages.pages page [] unused_page)

put-other : (pages pages' : PagesView) (n m : ℕ) (page : PageView) → m ≢ n → PutsPage pages pages' n page → page_in pages'.pages m ≡ page_in pages.pages m
put-other pages pages' n m page other (in_use within is marks) = ap (λ ps. page_in ps m) is ∙ get_or-set_other pages.pages n m page unused_page other
put-other pages pages' n m page other (after_all over is marks) = ap (λ ps. page_in ps m) is ∙ ⊎_elim
    (λ within. get_or_append_left pages.pages (page ∷ []) unused_page m within)
    (λ past.
    let long = length_push pages.pages page in
    let beyond : length (pages.pages ++ page ∷ []) ≤ m = ⊎_elim (λ same. absurd (other (same ∙ sym over))) (λ off. past-off pages.pages page m past off long) (cases_eq m (length pages.pages)) in
    get_or_past (pages.pages ++ page ∷ []) m unused_page beyond ∙ sym (get_or_past pages.pages m unused_page past))
    (cases_lt m (length pages.pages))
  where
    past-off : (ps : List PageView) (p : PageView) (k : ℕ) → length ps ≤ k → k ≢ length ps → length (ps ++ p ∷ []) ≡ length ps + 1 → length (ps ++ p ∷ []) ≤ k
    past-off ps p k past off long = omega arith

-- x makes a root
pub hints-root : (w : Window) (pages pages' : PagesView) (updated : Bool) (x : ℕ) (row : Row) (n : ℕ) (hints hints' : List PageHint) → PutsVersion pages pages' updated x row n
    → ExpectsRoot w x n hints hints' → AreTrueHints w pages.pages hints → AreTrueHints w pages'.pages hints'
hints-root w pages pages' updated x row n hints hints' root expects are = record {
  each = λ m turn known. ⊎_elim
      (λ here.
      let e = expects.here turn (ap (λ k. (hint_on hints' k).turn) (sym here) ∙ known) in
      subst (NothingDiesBefore w turn) (sym (is m here)) (dies-root w turn x n (page_in pages.pages n).slots updated row e.0 (are.each n turn e.1)))
      (λ other.
      subst (λ (p : PageView). NothingDiesBefore w turn p.slots) (sym (put-other pages pages' n m root.put.page other root.put.puts))
      (are.each m turn (sym (ap (λ (h : PageHint). h.turn) (expects.others m other)) ∙ known)))
      (cases_eq m n);
  doubts = λ m. ⊎_elim
      (λ here. subst (λ slots. AreDoubts w slots (hint_on hints' m).doubts) (sym (is m here))
      (subst (λ k. AreDoubts w (with_root (page_in pages.pages n).slots updated x n row) (hint_on hints' k).doubts) (sym here)
      (doubts-root w x n (page_in pages.pages n).slots updated row (hint_on hints n).doubts (hint_on hints' n).doubts expects.doubts (are.doubts n))))
      (λ other.
      subst (λ (p : PageView). AreDoubts w p.slots (hint_on hints' m).doubts) (sym (put-other pages pages' n m root.put.page other root.put.puts))
      (subst (λ (h : PageHint). AreDoubts w (page_in pages.pages m).slots h.doubts) (sym (expects.others m other)) (are.doubts m)))
      (cases_eq m n);
}
  where
    is : (m : ℕ) → m ≡ n → (page_in pages'.pages m).slots ≡ with_root (page_in pages.pages n).slots updated x n row
    is m here = ap (λ k. (page_in pages'.pages k).slots) here ∙ (ap (λ (p : PageView). p.slots) (put-here pages pages' n root.put.page root.put.puts) ∙ root.put.slots)

-- x changes the page that was there
hints-changed : (w : Window) (x : ℕ) (place : Tid) (pages pages' : List PageView) (before after : PageView) (hints hints' : List PageHint) → slice_get pages place.page ≡ Some before → pages' ≡ set pages place.page after
    → ((turn : ℕ) → ¬ IsAborted w x → turn ≤ turns w.first x → NothingDiesBefore w turn before.slots → NothingDiesBefore w turn after.slots)
    → ((known doubts : Option (List ℕ)) → AreDoubtedBy w x place.slot known doubts → AreDoubts w before.slots known → AreDoubts w after.slots doubts)
    → ExpectsWrite w x place hints hints' → AreTrueHints w pages hints → AreTrueHints w pages' hints'
hints-changed w x place pages pages' before after hints hints' at is write doubt expects are = record {
  each = λ m turn known. ⊎_elim
      (λ here.
      let l = expects.here turn (ap (λ k. (hint_on hints' k).turn) (sym here) ∙ known) in
      let dies = subst (λ (p : PageView). NothingDiesBefore w l.was p.slots) was (are.each place.page l.was l.is_known) in
      subst (λ (p : PageView). NothingDiesBefore w turn p.slots) (sym (now m here)) (write turn l.live l.later (dies-earlier w l.was turn before.slots l.earlier dies)))
      (λ other.
      subst (λ (p : PageView). NothingDiesBefore w turn p.slots) (sym (set-other pages pages' place.page m after is other))
      (are.each m turn (sym (ap (λ (h : PageHint). h.turn) (expects.others m other)) ∙ known)))
      (cases_eq m place.page);
  doubts = λ m. ⊎_elim
      (λ here. subst (λ (p : PageView). AreDoubts w p.slots (hint_on hints' m).doubts) (sym (now m here))
      (subst (λ k. AreDoubts w after.slots (hint_on hints' k).doubts) (sym here)
      (doubt (hint_on hints place.page).doubts (hint_on hints' place.page).doubts expects.doubts (subst (λ (p : PageView). AreDoubts w p.slots (hint_on hints place.page).doubts) was (are.doubts place.page)))))
      (λ other.
      subst (λ (p : PageView). AreDoubts w p.slots (hint_on hints' m).doubts) (sym (set-other pages pages' place.page m after is other))
      (subst (λ (h : PageHint). AreDoubts w (page_in pages m).slots h.doubts) (sym (expects.others m other)) (are.doubts m)))
      (cases_eq m place.page);
}
  where
    was : page_in pages place.page ≡ before
    was = page-at pages place.page before at

    now : (m : ℕ) → m ≡ place.page → page_in pages' m ≡ after
    now m here = ap (page_in pages') here ∙ (ap (λ ps. page_in ps place.page) is ∙ get_or-set_same pages place.page after unused_page (slice_get_within pages place.page before at))

-- it takes a version away
pub hints-taken_away : (w : Window) (x : ℕ) (place successor : Tid) (pages pages' : List PageView) (before after : PageView) (hints hints' : List PageHint)
    → slice_get pages place.page ≡ Some before → pages' ≡ set pages place.page after → WritesXmax before after place successor x → IsNormalAt before.slots place.slot
    → ExpectsWrite w x place hints hints' → AreTrueHints w pages hints → AreTrueHints w pages' hints'
hints-taken_away w x place successor pages pages' before after hints hints' at is away normal =
    hints-changed w x place pages pages' before after hints hints' at is
    (λ turn live later dies. subst (NothingDiesBefore w turn) (sym away.slots)
    (dies-replaced w turn place.slot x successor.page successor.slot false before.slots later normal dies))
    (λ known doubts by are. subst (λ slots. AreDoubts w slots doubts) (sym away.slots)
    (doubts-replaced w place.slot x successor.page successor.slot false before.slots known doubts normal by are))

-- or replaces it on the page
pub hints-replaced : (w : Window) (x : ℕ) (place : Tid) (row : Row) (pages pages' : List PageView) (before after : PageView) (hints hints' : List PageHint)
    → slice_get pages place.page ≡ Some before → pages' ≡ set pages place.page after → after.slots ≡ with_updated before.slots place.slot x place.page row
    → IsNormalAt before.slots place.slot → ExpectsWrite w x place hints hints' → AreTrueHints w pages hints → AreTrueHints w pages' hints'
hints-replaced w x place row pages pages' before after hints hints' at is slots normal =
    hints-changed w x place pages pages' before after hints hints' at is
    (λ turn live later dies. subst (NothingDiesBefore w turn) (sym slots) (dies-updated w turn place.slot x place.page before.slots row live later normal dies))
    (λ known doubts by are. subst (λ after_slots. AreDoubts w after_slots doubts) (sym slots)
    (doubts-updated w place.slot x place.page before.slots row known doubts normal by are))

-- there are hints on more pages
pub hints-covered : (w : Window) (pages : List PageView) (hints hints' : List PageHint) → ((n : ℕ) → hint_on hints' n ≡ hint_on hints n) → AreTrueHints w pages hints
    → AreTrueHints w pages hints'
hints-covered w pages hints hints' same are = record {
  each = λ n turn known. are.each n turn (sym (ap (λ (h : PageHint). h.turn) (same n)) ∙ known);
  doubts = λ n. subst (λ (h : PageHint). AreDoubts w (page_in pages n).slots h.doubts) (sym (same n)) (are.doubts n);
}

-- A look at a page.

pub known-none_dead : (h : HeapView) (hints : List PageHint) (n horizon known turn : ℕ) (page : PageView) → IsWindow h.statuses → AreTrueHints h.statuses h.pages.pages hints
    → slice_get h.pages.pages n ≡ Some page → length page.slots ≤ 291 → (hint_on hints n).turn ≡ Some known → IsUpToNext h.statuses horizon → turn ≡ turns h.statuses.first horizon → turn ≤ known
    → HasNoneDead h n horizon
known-none_dead h hints n horizon known turn page is are at few noted up turn_is early =
    let dies : NothingDiesBefore h.statuses known page.slots = subst (λ (p : PageView). NothingDiesBefore h.statuses known p.slots) (page-at h.pages.pages n page at) (are.each n known noted) in
    idle-at h n horizon page at few (none-dead h.statuses known horizon page.slots is up (subst (λ t. t ≤ known) turn_is early) dies)
