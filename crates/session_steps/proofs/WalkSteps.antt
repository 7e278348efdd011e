-- A scan of an index is a walk, as the relation has it.
use Rattle.std.proofs.Common.{◌≡◌, ◌<◌, List, [], ◌∷◌, ◌++◌, length, Some, refl, sym, ap, ◌∙◌, subst, inl}
use Rattle.std.proofs.lemmas.Option.{none-some}
use Rattle.tuple_header.specs.declared.version.Row.{Row}
use Rattle.index_lookup.specs.declared.index_scan.IndexPosition.{IndexPosition}
use Rattle.index_lookup.specs.declared.index_scan.IndexRange.{IndexRange}
use Rattle.visibility.proofs.Makers.{active-to}
use Rattle.history.specs.Cursors.{ComesBefore}
use Rattle.refinement.specs.Heap.{in_index}
use Rattle.refinement.specs.Cursors.{Comes, WalksOver}
use Rattle.refinement.specs.Cursors as cursors
use Rattle.refinement.proofs.CursorWalks.{Meets-one}
use Rattle.table_scans.specs.declared.progress.CursorScan.TheVariants.{Rows}
use Rattle.table_scans.specs.declared.progress.Scan.TheVariants.{Index}
use Rattle.table_scans.specs.Scans.{NoneIsIn, ScansIndex, index_begins, index_goes_on}
use Rattle.sessions.specs.declared.session.Session.{Session}
use Rattle.session_steps.specs.State.{State, seen, seen_position, reader_of}
use Rattle.sessions.specs.Session.{cursor_snapshot}
use Rattle.session_steps.specs.Takes.{session_sight}
use Rattle.session_steps.proofs.Owns.{reader-is}
use Rattle.session_steps.proofs.Scanning.{IsScanned, scans-unexcused, cursor-scans}
use Rattle.session_steps.proofs.AtCursor.{seen_by, IsAtCursor, NoneToCome, SomeToCome, first-row}
use Rattle.session_steps.proofs.Walks.{IsNextFor, next-comes, next-position, next-first, none-comes}

-- the first rows of a span that the session sees there, and what is left of the span behind them
pub record Walks (st : State) (e : Session) (span left : IndexRange) (rows : List Row) : Type 0 where
  pub same : left ≡ record span { last = left.last }
  pub meets : IsAtCursor st e (Rows (Index span)) → WalksOver (seen st).version (seen_by st e) span.index span.low span.high (seen_position span.last) (seen_position left.last) rows

-- the cursor goes along an index in use, and sees nothing that this leaves out
scanned-at : (st : State) (e : Session) (span : IndexRange) → IsAtCursor st e (Rows (Index span)) → IsScanned st e span.index
scanned-at st e span at = record {
  used = ((at.agrees.sound.scans at.number e at.there).cursor span at.opened).0;
  unexcused = scans-unexcused st at.world at.agrees span.index (cursor_snapshot st.heap.statuses e.isolation) e.own.ids (cursor-scans st at.world at.number e span at.agrees at.there at.opened)
      (λ x mine. active-to st.heap.statuses x ((at.agrees.found.opened at.number (reader_of e) (reader-is st at.number e at.there)).2.own_active x mine));
}

-- so does what is left of its span
scanned-left : (st : State) (e : Session) (span left : IndexRange) (rows : List Row) → Walks st e span left rows → IsAtCursor st e (Rows (Index span)) → IsScanned st e left.index
scanned-left st e span left rows h at = subst (IsScanned st e) (sym (ap (λ (sp : IndexRange). sp.index) h.same)) (scanned-at st e span at)

-- what comes in what is left
abbrev pub ComesIn : State → Session → IndexRange → Row → Type 0
ComesIn st e span row = Comes (seen st).version (seen_by st e) (in_index span.index span.low span.high (seen_position span.last)) row

in-left : (st : State) (e : Session) (span left : IndexRange) (row : Row) → left ≡ record span { last = left.last } → ComesIn st e left row
    → Comes (seen st).version (seen_by st e) (in_index span.index span.low span.high (seen_position left.last)) row
in-left st e span left row same comes =
    subst (λ (sp : IndexRange). Comes (seen st).version (seen_by st e) (in_index sp.index sp.low sp.high (seen_position left.last)) row) same comes

pub left-in : (st : State) (e : Session) (span left : IndexRange) (row : Row) → left ≡ record span { last = left.last }
    → Comes (seen st).version (seen_by st e) (in_index span.index span.low span.high (seen_position left.last)) row → ComesIn st e left row
left-in st e span left row same comes =
    subst (λ (sp : IndexRange). Comes (seen st).version (seen_by st e) (in_index sp.index sp.low sp.high (seen_position left.last)) row) (sym same) comes

module _ (st : State) (e : Session) (span left : IndexRange) (rows : List Row) (h : Walks st e span left rows) where
  -- the next row comes, and none comes before it
  comes-next : (position : IndexPosition) (row : Row) → IsNextFor st e left position row → IsAtCursor st e (Rows (Index span))
      → Comes (seen st).version (seen_by st e) (in_index span.index span.low span.high (seen_position left.last)) row
  comes-next position row next at =
      in-left st e span left row h.same (next-comes st at.world at.number e at.agrees at.there left (scanned-left st e span left rows h at) position row next)

  one-walks : (position : IndexPosition) (row : Row) → IsNextFor st e left position row → Walks st e span (record left { last = Some position }) (rows ++ row ∷ [])
  one-walks position row next = record {
    same = ap (λ (sp : IndexRange). record sp { last = Some position }) h.same;
    meets = λ at.
        let scanned = scanned-left st e span left rows h at in
        let index : left.index ≡ span.index = ap (λ (sp : IndexRange). sp.index) h.same in
        subst (λ to. WalksOver (seen st).version (seen_by st e) span.index span.low span.high (seen_position span.last) to (rows ++ row ∷ []))
        (ap (λ n. Some (cursors.index_position_of n row)) (sym index) ∙ next-position st at.world at.number e at.agrees at.there left scanned position row next)
        (Meets-one row (comes-next position row next at)
        (λ other comes ne. subst (λ n. ComesBefore n row other) index
        (next-first st at.world at.number e at.agrees at.there left scanned position row next other (left-in st e span left other h.same comes) ne))
        (h.meets at));
  }

  -- nothing comes in what is left, where none is seen in it
  pub none-left : NoneIsIn (session_sight st e) left → IsAtCursor st e (Rows (Index span)) → (row : Row) → ¬ ComesIn st e left row
  none-left none at row comes = none-comes st at.world at.number e at.agrees at.there left (scanned-left st e span left rows h at) none row comes

pub none-walks : (st : State) (e : Session) (span : IndexRange) → Walks st e span span []
none-walks st e span = record {
  same = refl;
  meets = λ at. record {
    theirs = λ i row is. absurd (none-some row is);
    in_order = λ i j a b is bs lt. absurd (none-some a is);
    met = λ row coming. inl coming.to_come.after;
    onward = λ row past. past;
  };
}

pub scans-walk : {st : State} {e : Session} {span left : IndexRange} {rows : List Row} → ScansIndex (session_sight st e) span left rows → Walks st e span left rows
scans-walk {st} {e} {span} index_begins = none-walks st e span
scans-walk {st} {e} {span} (index_goes_on before rows position row scans next) = one-walks st e span before rows (scans-walk scans) position row next

-- none comes in the whole span
pub none-in : (st : State) (e : Session) (span : IndexRange) → NoneIsIn (session_sight st e) span → IsAtCursor st e (Rows (Index span)) → NoneToCome st e (Rows (Index span))
none-in st e span none at row comes = none-left st e span span [] (none-walks st e span) none at row comes

-- some row comes
pub some-in : (st : State) (e : Session) (span left : IndexRange) (rows : List Row) → ScansIndex (session_sight st e) span left rows → 0 < length rows → IsAtCursor st e (Rows (Index span)) → SomeToCome st e (Rows (Index span))
some-in st e span left rows scans some at = let first = first-row rows some in (first.0, (((scans-walk scans).meets at).theirs 0 first.0 first.1).0)
