-- What is told of a line, and why a line is not told.
use Rattle.std.proofs.Common.{◌≡◌, ℕ, List, [], ◌++◌, refl, ap, append_assoc, ◌∙◌, sym, subst, codes, Result, Ok, Err, OnOk}
use Rattle.script.specs.Engine.{WaitingView}
use Rattle.session_steps.specs.State.{State}
use Rattle.viewing.specs.Steps.{DoesView}
use Rattle.shapes.specs.declared.fault.PictureFault.{PictureFault}
use Rattle.shapes.specs.declared.fault.PictureFault.TheVariants as fault
use Rattle.shapes.specs.Shapes.{IsPictureFault}
use Rattle.shapes.specs.Pictures.{AddsText, all_pages, IsPictureText}
use Rattle.shapes.proofs.PageLemmas.{all-in-use, too-wide}
use Rattle.stories.specs.Faults.{fault_in_drawing}
use Rattle.stories.specs.Html.{head_html, item_html}
use Rattle.stories.specs.Telling.{ExplainsLine, IsBegun, IsEnded, IsTold, IsFirstTold, TellsLine, IsUndrawn}

-- Sections.

-- what a line finds is told behind its head
pub begun : {E : Type 0} (r : Result (Unit {0}) E) (st : State) (line old mid new : List ℕ) → mid ≡ old ++ head_html line → OnOk r (AddsText (ExplainsLine st line) mid new) → OnOk r (AddsText (IsBegun st line) old new)
begun (Ok u) st line old mid new a b = record {
  text = head_html line ++ b.text;
  is = (b.text, b.is, refl);
  behind = b.behind ∙ ap (λ x. x ++ b.text) a ∙ append_assoc old (head_html line) b.text;
}
begun (Err e) st line old mid new a b = tt

pub ended : (e : WaitingView) (old mid new : List ℕ) → AddsText (IsPictureText e (all_pages e.engine.core)) old mid → new ≡ mid ++ codes "</section>" → AddsText (IsEnded e) old new
ended e old mid new a b = record {
  text = a.text ++ codes "</section>";
  is = (a.text, a.is, refl);
  behind = b ∙ ap (λ x. x ++ codes "</section>") a.behind ∙ append_assoc old a.text (codes "</section>");
}

pub first-ended : {E : Type 0} (r : Result (Unit {0}) E) (e : WaitingView) (line old mid new : List ℕ) → mid ≡ old ++ head_html line → OnOk r (AddsText (IsEnded e) mid new) → OnOk r (AddsText (IsFirstTold e line) old new)
first-ended (Ok u) e line old mid new a b = record {
  text = head_html line ++ b.text;
  is = record { picture = b.is.0; draws = b.is.1; is = ap (λ x. head_html line ++ x) b.is.2 };
  behind = b.behind ∙ ap (λ x. x ++ b.text) a ∙ append_assoc old (head_html line) b.text;
}
first-ended (Err x) e line old mid new a b = tt

told-joined : (from to : WaitingView) (line old mid new : List ℕ) → AddsText (IsBegun from.engine.core line) old mid → AddsText (IsEnded to) mid new → (one : List ℕ) × IsTold from to line one × (new ≡ old ++ one)
told-joined from to line old mid new a b = (
  a.text ++ b.text,
  record {
    explained = a.is.0;
    explains = a.is.1;
    picture = b.is.0;
    draws = b.is.1;
    is = ap (λ x. x ++ b.text) a.is.2 ∙ append_assoc (head_html line) a.is.0 b.text ∙ ap (λ x. head_html line ++ (a.is.0 ++ x)) b.is.2;
  },
  b.behind ∙ ap (λ x. x ++ b.text) a.behind ∙ append_assoc old a.text b.text,
)

pub line-told : (line : List ℕ) (from to last : WaitingView) (items items' told mid told' answer : List ℕ) → AddsText (IsBegun from.engine.core line) told mid → DoesView line from to [] answer
    → items' ≡ items ++ item_html line answer → AddsText (IsEnded to) mid told' → last ≡ to → TellsLine line from last items items' told told'
line-told line from to last items items' told mid told' answer a d i b same =
    let joined = told-joined from to line told mid told' a b in
    subst (λ (st : WaitingView). TellsLine line from st items items' told told') (sym same) (record {
      event = d.0;
      fits = d.1;
      line_is = d.2;
      moves = d.3;
      one = joined.0;
      one_told = joined.1;
      items_behind = i ∙ ap (λ x. items ++ item_html line x) d.4;
      told_behind = joined.2;
    })

-- Why a line is not told.

pub picture-fault : (e : WaitingView) (f : PictureFault) → IsPictureFault e.engine.core (all_pages e.engine.core) f → IsUndrawn e (fault_in_drawing f)
picture-fault e fault.TooManyPages is = too-wide e.engine.core is
picture-fault e (fault.NoSuchPage p) is = absurd (all-in-use e.engine.core p is.1)
picture-fault e fault.NoMemory is = tt
