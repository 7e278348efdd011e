-- Which versions a reader sees after a write.
use Rattle.std.proofs.Common.{◌≡◌, ◌≢◌, ◌⊎◌, ◌↔◌, ℕ, Bool, true, false, List, Some, sym, ◌∙◌, subst, ⊎_elim, inl, inr}
use Rattle.std.specs.Prelude.{Contains}
use Rattle.std.proofs.lemmas.Bool.{cases_Bool}
use Rattle.xid_circle.specs.declared.Tid.{Tid}
use Rattle.tuple_header.specs.Version.{Version}
use Rattle.tuple_header.specs.Marks.{is_frozen}
use Rattle.tuple_header.specs.declared.version.Header.{Header}
use Rattle.tuple_header.specs.declared.version.Row.{Row}
use Rattle.commit_status.specs.declared.status.Status.TheVariants.{InProgress, Committed}
use Rattle.commit_status.specs.Window.{Window, IsWindow, IsActive, IsGiven, IsAborted}
use Rattle.snapshot.specs.Own.{Own}
use Rattle.snapshot.specs.Snap.{Snap}
use Rattle.visibility.specs.Seeing.{Reads, VisibleBy}
use Rattle.visibility.specs.Visible.{IsFrozen, ReadsIn, IsVisible}
use Rattle.visibility.proofs.Makers.{visible-of, made-of, kept-of, committed-to}
use Rattle.tuple_writes.specs.Keeps.{HasNoXmax}
use Rattle.tuple_writes.proofs.Bits.{replaced-frozen}
use Rattle.index_lookup.specs.Pages.{version_in}
use Rattle.heap_write.specs.Heap.{HeapView, slots_of}
use Rattle.write_ids.specs.Ids.{TakesIds}
use Rattle.table_integrity.specs.Readers.{IsAuthor}
use Rattle.table_integrity.proofs.TakenIds.{takes-ids, takes-more, takes-old}
use Rattle.table_integrity.proofs.Places.{IsNewBy, taken_version}

-- Who does not own an id in progress doesn't read it.
pub active-unread : (w : Window) (s : Snap) (own : List ℕ) (x : ℕ) → IsActive w x → ¬ Contains own x → ¬ ReadsIn w s own x
active-unread w s own x active foreign (Reads.by_itself mine) = foreign mine
active-unread w s own x active foreign (Reads.by_others sees done) = let e : InProgress ≡ Committed = sym active.unfinished ∙ committed-to w x done in absurd (cc)

-- One version.

-- it is unfrozen, and the reader doesn't read its inserter
pub new-unseen : (R : ℕ → Type 0) (x : ℕ) (row : Row) (v : Version) → IsNewBy x row v → ¬ R x → ¬ VisibleBy R v.header
new-unseen R x row v new unread seen = ⊎_elim
    (λ frozen. let e : true ≡ false = sym frozen ∙ new.thawed in absurd (cc))
    (λ reads. unread (subst R new.inserter reads))
    (made-of R v.header seen)

-- its inserter is read, and it has no deleter
pub new-seen : (R : ℕ → Type 0) (x : ℕ) (row : Row) (v : Version) → IsNewBy x row v → R x → VisibleBy R v.header
new-seen R x row v new reads = visible-of R v.header (inr (subst R (sym new.inserter) reads)) (λ some. absurd (some new.undeleted))

-- neither the deleter before nor the one now is read
pub taken-same : (R : ℕ → Type 0) (w : Window) (t : Version) (x : ℕ) (to : Tid) (hot : Bool) → ((y : ℕ) → IsAborted w y → ¬ R y) → HasNoXmax w t.header → ¬ R x
    → VisibleBy R t.header ↔ VisibleBy R (taken_version t x to hot).header
taken-same R w t x to hot none free unread = (
  (λ seen. visible-of R taken (⊎_elim (λ f. inl (replaced-frozen t.header x to.page to.slot hot ∙ f)) (λ r. inr r) (made-of R t.header seen)) (λ some. unread)),
  (λ seen. visible-of R t.header
      (⊎_elim (λ f. inl (sym (replaced-frozen t.header x to.page to.slot hot) ∙ f)) (λ r. inr r) (made-of R taken seen))
      (λ some r. ⊎_elim (λ zero. some zero) (λ gone. none t.header.xmax.0 gone r) free)),
)
  where
    taken : Header
    taken = (taken_version t x to hot).header

-- the deleter now is read
pub taken-unseen : (R : ℕ → Type 0) (t : Version) (x : ℕ) (to : Tid) (hot : Bool) → x ≢ 0 → R x → ¬ VisibleBy R (taken_version t x to hot).header
taken-unseen R t x to hot some reads seen = kept-of R (taken_version t x to hot).header seen some reads

-- Who gets ids.

-- the ids that a version names are read as before
pub same-named : (R Q : ℕ → Type 0) (h : Header) → ((¬ IsFrozen h) → R h.xmin.0 ↔ Q h.xmin.0) → (h.xmax.0 ≢ 0 → R h.xmax.0 ↔ Q h.xmax.0) → VisibleBy R h ↔ VisibleBy Q h
same-named R Q h inserter deleter = (
  (λ seen. visible-of Q h (made R Q (λ thawed. (inserter thawed).0) (made-of R h seen)) (λ some q. kept-of R h seen some ((deleter some).1 q))),
  (λ seen. visible-of R h (made Q R (λ thawed. (inserter thawed).1) (made-of Q h seen)) (λ some r. kept-of Q h seen some ((deleter some).0 r))),
)
  where
    made : (A B : ℕ → Type 0) → ((¬ IsFrozen h) → A h.xmin.0 → B h.xmin.0) → IsFrozen h ⊎ A h.xmin.0 → IsFrozen h ⊎ B h.xmin.0
    made A B on is = ⊎_elim
        (λ frozen. inl frozen)
        (λ cold. ⊎_elim (λ f. inl f) (λ a. inr (on (λ f. let e : true ≡ false = sym f ∙ cold in cc) a)) is)
        (cases_Bool (is_frozen h))

-- of what was given before, who has taken ids reads the same
takes-reads : (w v : Window) (s : Snap) (own own' : Own) (x z : ℕ) → IsWindow w → IsWindow v → TakesIds w v own own' x → IsGiven w z → ReadsIn w s own.ids z ↔ ReadsIn v s own'.ids z
takes-reads w v s own own' x z before after takes there =
    ((λ r. more (same.1 r)), (λ r. same.0 (less r)))
  where
    same : ReadsIn v s own.ids z ↔ ReadsIn w s own.ids z
    same = takes-ids w v own own' x before after takes s own.ids z

    less : ReadsIn v s own'.ids z → ReadsIn v s own.ids z
    less (Reads.by_itself mine) = Reads.by_itself (takes-old w v own own' x before after takes z there mine)
    less (Reads.by_others sees done) = Reads.by_others sees done

    more : ReadsIn v s own.ids z → ReadsIn v s own'.ids z
    more (Reads.by_itself mine) = Reads.by_itself (takes-more w v own own' x before after takes z mine)
    more (Reads.by_others sees done) = Reads.by_others sees done

-- and sees each version of the table as before
pub author-sight : (h : HeapView) (v : Window) (horizon : ℕ) (own own' : Own) (x : ℕ) (s : Snap) → IsWindow h.statuses → IsWindow v → TakesIds h.statuses v own own' x
    → IsAuthor h horizon s own.ids → (p : Tid) (t : Version) → version_in (slots_of h) p ≡ Some t → IsVisible h.statuses s own.ids t.header ↔ IsVisible v s own'.ids t.header
author-sight h v horizon own own' x s before after takes author p t at =
    same-named (ReadsIn h.statuses s own.ids) (ReadsIn v s own'.ids) t.header
    (λ thawed. takes-reads h.statuses v s own own' x t.header.xmin.0 before after takes (author.makers p t at thawed))
    (λ some. takes-reads h.statuses v s own own' x t.header.xmax.0 before after takes (author.deleters p t at some))
