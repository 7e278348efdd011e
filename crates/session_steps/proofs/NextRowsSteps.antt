-- The next rows or keys of a cursor are written to places: whatever the answer, the engine follows the history.
use Rattle.std.proofs.Common.{◌≡◌, ℕ, ◌<◌, ◌≤◌, ◌^◌, max, List, [], ◌∷◌, length, subst, Some, Ok, Err, false, refl, sym, ap, ◌∙◌, arith}
use Rattle.std.specs.Option.{option_map}
use Rattle.tuple_header.specs.declared.row_place.RowPlace.{RowPlace}
use Rattle.tuple_header.specs.declared.version.Row.{Row}
use Rattle.tuple_header.specs.Places.{places_with}
use Rattle.calls.specs.declared.reply.Reply.TheVariants as reply
use Rattle.calls.specs.declared.reply.Refusal.{Refusal}
use Rattle.calls.specs.Bars.{BarsWithCursor}
use Rattle.table_scans.specs.declared.progress.CursorScan.{CursorScan}
use Rattle.table_scans.specs.declared.progress.CursorScan.TheVariants.{Rows, Keys}
use Rattle.table_scans.specs.declared.progress.KeyRange.{KeyRange}
use Rattle.table_scans.specs.declared.progress.Scan.{Scan}
use Rattle.table_scans.specs.declared.progress.Scan.TheVariants.{Index, Heap}
use Rattle.table_scans.specs.Takes.{TakesUpTo}
use Rattle.table_scans.specs.Puts.{PutsNext, PutsOfCursor}
use Rattle.table_scans.specs.Keys.{TakesKeys, PutsKeys, places_with_keys}
use Rattle.table_scans.proofs.KeyLemmas.{no-key_taken}
use Rattle.table_scans.proofs.ScanLemmas.{no-rows}
use Rattle.sessions.specs.declared.session.Session.{Session}
use Rattle.session_steps.specs.State.{State, session_at, put_session, with_cursor, engine_sessions}
use Rattle.session_steps.specs.Takes.{session_sight}
use Rattle.session_steps.specs.NextRows.{AnswersNextRows}
use Rattle.session_steps.proofs.KeyNext.{Follows-keys, hands-out_keys, with_keys}
use Rattle.session_steps.proofs.NextSteps.{Follows-bare_next, Follows-end, Follows-rows_up_to, hands-out, bare-next_rows, with_rows}

-- the rows are no more than there are places
up-to-most : (st : State) (e : Session) (cursor : Scan) (most : ℕ) (rows : List Row) (to : Scan) → TakesUpTo (session_sight st e) cursor most rows to → length rows ≤ most
up-to-most st e (Index span) most rows to (left, same, takes) = takes.at_most
up-to-most st e (Heap from) most rows to (place, same, takes) = takes.at_most

-- What is answered.

pub puts-refused : (st : State) (s : ℕ) (places : List RowPlace) (r : Refusal) → BarsWithCursor (engine_sessions st) s r → AnswersNextRows st s places (Err r) places st
puts-refused st s places r is = record {
  reply = reply.Refused r;
  written = (refl, refl);
  follows = λ hold. Follows-bare_next st s (length places) r is;
  exact = bare-next_rows st s (length places) r is;
}

module _ (st : State) (s : ℕ) (e : Session) (cursor : Scan) (places : List RowPlace) (count : ℕ) (to : Scan) (after : List RowPlace)
    (at : session_at st s ≡ Some e) (sound : e.failed ≡ false) (opened : e.cursor ≡ Some (Rows cursor)) (h : PutsNext (session_sight st e) cursor places count to after) where
  no-rows_put : count ≡ 0 → AnswersNextRows st s places (Ok count) after st
  no-rows_put none = record {
    reply = reply.End;
    written = (ap Ok none, h.put.written ∙ ap (λ rows. places_with rows places) (no-rows h.rows count h.put.number none));
    follows = λ hold. Follows-end st s (length places) e (Rows cursor) at sound opened (h.at_end none);
    exact = refl;
  }

  rows-put : (st' : State) → 0 < count → 0 < length places → length places < 2 ^ 63 → st' ≡ put_session st s (option_map (with_cursor (Some (Rows to))) (session_at st s)) → AnswersNextRows st s places (Ok count) after st'
  rows-put st' above some fits is =
      let few = up-to-most st e cursor (length places) h.rows to (h.takes above) in
      let rows = with_rows h.rows (omega (arith, fits, few)) in
      let met : 0 < length h.rows = omega (arith, above, h.put.number) in record {
        reply = reply.Rows rows;
        written = (ap Ok (sym h.put.number), h.put.written);
        follows = λ hold. Follows-rows_up_to st st' s (length places) e cursor to rows at sound opened met some (h.takes above) is;
        exact = (met, hands-out TakesUpTo st st' s (length places) e cursor to h.rows at opened (h.takes above) is);
      }

module _ (st : State) (s : ℕ) (e : Session) (range : KeyRange) (places : List RowPlace) (count : ℕ) (left : KeyRange) (after : List RowPlace)
    (at : session_at st s ≡ Some e) (sound : e.failed ≡ false) (opened : e.cursor ≡ Some (Keys range)) (h : PutsKeys (session_sight st e) range places count left after) where
  no-keys_put : 0 < length places → count ≡ 0 → AnswersNextRows st s places (Ok count) after st
  no-keys_put some none =
      let bare : length h.keys ≡ 0 = omega (arith, h.number, none) in record {
        reply = reply.End;
        written = (ap Ok none, h.written ∙ ap (λ keys. places_with_keys keys places) (nothing h.keys bare));
        follows = λ hold. Follows-end st s (length places) e (Keys range) at sound opened (no-key_taken (session_sight st e) range left (length places) h.keys h.takes bare some);
        exact = refl;
      }
    where
      nothing : (keys : List ℕ) → length keys ≡ 0 → keys ≡ []
      nothing [] bare = refl
      nothing (key ∷ keys) bare = absurd (omega arith)

  keys-put : (st' : State) → 0 < count → 0 < length places → length places < 2 ^ 63 → st' ≡ put_session st s (option_map (with_cursor (Some (Keys left))) (session_at st s)) → AnswersNextRows st s places (Ok count) after st'
  keys-put st' above some fits is =
      let few = h.takes.at_most in
      let keys = with_keys h.keys (omega (arith, fits, few)) in
      let met : 0 < length h.keys = omega (arith, above, h.number) in
      let takes = subst (λ most. TakesKeys (session_sight st e) range left most h.keys) (same-most (length places) some) h.takes in record {
        reply = reply.Keys keys;
        written = (ap Ok (sym h.number), h.written);
        follows = λ hold. Follows-keys st st' s (length places) e range left keys at sound opened is (record { some = met; takes = takes }) hold;
        exact = (met, hands-out_keys st st' s (length places) e range left keys at sound opened is takes);
      }
    where
      same-most : (n : ℕ) → 0 < n → n ≡ max 1 n
      same-most n some = omega arith

-- Of either kind of cursor.

module _ (st : State) (s : ℕ) (e : Session) (places : List RowPlace) (count : ℕ) (after : List RowPlace) (at : session_at st s ≡ Some e) (sound : e.failed ≡ false) where
  pub none-put : (cursor to : CursorScan) → e.cursor ≡ Some cursor → PutsOfCursor (session_sight st e) cursor places count to after → 0 < length places → count ≡ 0 → AnswersNextRows st s places (Ok count) after st
  none-put (Rows scan) to opened (left, same, puts) some none = no-rows_put st s e scan places count left after at sound opened puts none
  none-put (Keys range) to opened (left, same, puts) some none = no-keys_put st s e range places count left after at sound opened puts some none

  pub some-put : (cursor to : CursorScan) → e.cursor ≡ Some cursor → PutsOfCursor (session_sight st e) cursor places count to after → (st' : State) → 0 < count → 0 < length places → length places < 2 ^ 63
      → st' ≡ put_session st s (option_map (with_cursor (Some to)) (session_at st s)) → AnswersNextRows st s places (Ok count) after st'
  some-put (Rows scan) to opened (left, same, puts) st' above some fits is =
      rows-put st s e scan places count left after at sound opened puts st' above some fits (is ∙ ap (λ (c : CursorScan). put_session st s (option_map (with_cursor (Some c)) (session_at st s))) same)
  some-put (Keys range) to opened (left, same, puts) st' above some fits is =
      keys-put st s e range places count left after at sound opened puts st' above some fits (is ∙ ap (λ (c : CursorScan). put_session st s (option_map (with_cursor (Some c)) (session_at st s))) same)
