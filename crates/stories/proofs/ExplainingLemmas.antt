-- What is told of a key that is read.
use Rattle.std.proofs.Common.{◌≡◌, ℕ, inl, inr, List, [], ◌++◌, refl, sym, Option, Some, Result, Ok, Err, OnOk}
use Rattle.std.proofs.lemmas.List.{append-nil}
use Rattle.calls.specs.Bars.{BarsOpen}
use Rattle.calls.specs.declared.reply.Refusal.{Refusal}
use Rattle.sessions.specs.declared.session.Session.{Session}
use Rattle.session_steps.specs.State.{State, session_at, engine_sessions}
use Rattle.view_text.specs.declared.versions.EntryLook.{EntryLook}
use Rattle.viewing.specs.Showing.{IsExplanation}
use Rattle.shapes.specs.Pictures.{AddsText}
use Rattle.stories.specs.Html.{explanation_html}
use Rattle.stories.specs.Telling.{IsReadingOf, ExplainsKey, ExplainsRead, ExplainsLine}

pub explained-by : {E : Type 0} (r : Result (Unit {0}) E) (st : State) (s key : ℕ) (e : Session) (entries : List EntryLook) (old new : List ℕ) → session_at st s ≡ Some e → IsExplanation st e key entries
    → OnOk r (new ≡ old ++ explanation_html s key entries) → OnOk r (AddsText (ExplainsKey st s key) old new)
explained-by (Ok u) st s key e entries old new here is added = record { text = explanation_html s key entries; is = inr (e, entries, here, is, refl); behind = added }
explained-by (Err x) st s key e entries old new here is added = tt

pub not-explained : (st : State) (s key : ℕ) (r : Refusal) (text : List ℕ) → BarsOpen (engine_sessions st) s r → AddsText (ExplainsKey st s key) text text
not-explained st s key r text bars = record { text = []; is = inl (r, bars, refl); behind = sym (append-nil text) }

pub line-read : {E : Type 0} (r : Result (Unit {0}) E) (st : State) (line : List ℕ) (read : Option (ℕ × ℕ)) (old new : List ℕ) → IsReadingOf line read → OnOk r (AddsText (ExplainsRead st read) old new)
    → OnOk r (AddsText (ExplainsLine st line) old new)
line-read (Ok u) st line read old new is added = record { text = added.text; is = (read, is, added.is); behind = added.behind }
line-read (Err x) st line read old new is added = tt
