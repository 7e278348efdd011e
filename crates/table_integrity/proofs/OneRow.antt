-- One row of a key comes in the place of another, or none.
use Rattle.std.proofs.Common.{◌≡◌, ℕ, List, Some, refl, sym, ap, ◌∙◌, ⊎_elim, inl, inr}
use Rattle.std.proofs.lemmas.Option.{same_Some}
use Rattle.xid_circle.specs.declared.Tid.{Tid}
use Rattle.tuple_header.specs.Version.{Version}
use Rattle.tuple_header.specs.declared.version.Row.{Row}
use Rattle.snapshot.specs.Own.{Own}
use Rattle.snapshot.specs.Snap.{Snap}
use Rattle.index_lookup.specs.Pages.{version_in}
use Rattle.heap_write.specs.Heap.{HeapView, slots_of}
use Rattle.heap_write.specs.Writes.{Inserts, Updates, Deletes}
use Rattle.table_integrity.specs.Table.{SoundTable, MayDelete}
use Rattle.table_integrity.specs.Laws.{WritesUnder}
use Rattle.table_integrity.specs.Readers.{FindsRowAt, IsAuthor, FindsOneMore, Elsewhere}
use Rattle.table_integrity.specs.ByKey.{FindsNone, FindsNoneElsewhere, SameOfOthers, PutsRowOfKey}
use Rattle.table_integrity.proofs.Found.{insert-found, update-found, delete-found}

-- of what was found before, no other row of the key was found elsewhere than where it was replaced
one-row : (first before after : Tid → Row → Type 0) (row : Row) → SameOfOthers first before row.key → FindsNone before row.key → FindsOneMore before after row → PutsRowOfKey first after row
one-row first before after row same none more = record {
  place = more.place;
  only = λ p r of. (
    (λ f. ⊎_elim (λ old. absurd (none p r of old)) (λ here. here) ((more.each p r).0 f)),
    (λ here. (more.each p r).1 (inr here)),
  );
  others = λ p r other. (
    (λ f. (more.each p r).1 (inl ((same p r other).0 f))),
    (λ f. (same p r other).1 (⊎_elim (λ old. old) (λ here. absurd (other (ap (λ (z : Row). z.key) here.1))) ((more.each p r).0 f))),
  );
}

-- what is found at the place of a version is its row
elsewhere-same : (h : HeapView) (s : Snap) (own : List ℕ) (place : Tid) (t : Version) (key : ℕ) → version_in (slots_of h) place ≡ Some t → t.row.key ≡ key
    → SameOfOthers (FindsRowAt h s own) (Elsewhere place (FindsRowAt h s own)) key
elsewhere-same h s own place t key at of p r other = (
  (λ f. (
    f,
    λ e. other (
        sym (ap (λ (z : Row). z.key) f.of_row)
        ∙ ap (λ (v : Version). v.row.key) (sym (same_Some t f.version (sym at ∙ (ap (version_in (slots_of h)) (sym e) ∙ f.there))))
        ∙ of),
  )),
  (λ pair. pair.0),
)

pub insert-puts : (h h' : HeapView) (horizon : ℕ) (own own' : Own) (row : Row) (x : ℕ) (s : Snap) → SoundTable h → WritesUnder h h' own
    → Inserts h h' own own' row x → IsAuthor h horizon s own.ids → FindsNone (FindsRowAt h s own.ids) row.key → PutsRowOfKey (FindsRowAt h s own.ids) (FindsRowAt h' s own'.ids) row
insert-puts h h' horizon own own' row x s sound writer i author none =
    one-row (FindsRowAt h s own.ids) (FindsRowAt h s own.ids) (FindsRowAt h' s own'.ids) row (λ p r other. (λ f. f, λ f. f)) none (insert-found h h' horizon own own' row x s sound writer i author)

pub update-puts : (h h' : HeapView) (horizon : ℕ) (own own' : Own) (place : Tid) (t : Version) (row : Row) (x : ℕ) (s : Snap) → SoundTable h → WritesUnder h h' own
    → MayDelete h place t → row.key ≡ t.row.key → Updates h h' own own' place row horizon x → IsAuthor h horizon s own.ids
    → FindsNoneElsewhere (FindsRowAt h s own.ids) row.key place → PutsRowOfKey (FindsRowAt h s own.ids) (FindsRowAt h' s own'.ids) row
update-puts h h' horizon own own' place t row x s sound writer may key u author only =
    one-row (FindsRowAt h s own.ids) (Elsewhere place (FindsRowAt h s own.ids)) (FindsRowAt h' s own'.ids) row (elsewhere-same h s own.ids place t row.key may.there (sym key))
    (λ p r of old. old.1 (only p r of old.0)) (update-found h h' horizon own own' place t row x s sound writer may u author)

pub delete-takes : (h h' : HeapView) (horizon : ℕ) (own own' : Own) (place : Tid) (t : Version) (x : ℕ) (s : Snap) → SoundTable h → WritesUnder h h' own
    → MayDelete h place t → Deletes h h' own own' place x → IsAuthor h horizon s own.ids → FindsNoneElsewhere (FindsRowAt h s own.ids) t.row.key place
    → FindsNone (FindsRowAt h' s own'.ids) t.row.key × SameOfOthers (FindsRowAt h s own.ids) (FindsRowAt h' s own'.ids) t.row.key
delete-takes h h' horizon own own' place t x s sound writer may d author only =
    let found = delete-found h h' horizon own own' place t x s sound writer may d author in
    let same = elsewhere-same h s own.ids place t t.row.key may.there refl in (
      (λ p r of f. let old = (found p r).0 f in old.1 (only p r of old.0)),
      (λ p r other. ((λ f. (found p r).1 ((same p r other).0 f)), (λ f. (same p r other).1 ((found p r).0 f)))),
    )
