-- Parts of a picture, one behind another, where the last was added or memory was refused.
use Rattle.std.proofs.Common.{List, Result, Ok, Err}
use Rattle.std.specs.Prelude.{OnOk}
use Rattle.shape_list.specs.declared.shape.Shape.{Shape}
use Rattle.shapes.specs.Shapes.{AreInTurn, Adds}
use Rattle.shapes.proofs.Adding.{adds-joined}

pub on-ok : {E : Type 0} {P Q : Type 0} (r : Result (Unit {0}) E) → OnOk r P → (P → Q) → OnOk r Q
on-ok (Ok u) p f = f p
on-ok (Err e) p f = p

pub two-parts : {E : Type 0} (A B : List Shape → Type 0) (s0 s1 s2 : List Shape) (r : Result (Unit {0}) E) → Adds A s0 s1 → OnOk r (Adds B s1 s2) → OnOk r (Adds (AreInTurn A B) s0 s2)
two-parts A B s0 s1 s2 r a b = on-ok r b (λ x. adds-joined A B s0 s1 s2 a x)

pub three-parts : {E : Type 0} (A B C : List Shape → Type 0) (s0 s1 s2 s3 : List Shape) (r : Result (Unit {0}) E) → Adds A s0 s1 → Adds B s1 s2 → OnOk r (Adds C s2 s3)
    → OnOk r (Adds (AreInTurn A (AreInTurn B C)) s0 s3)
three-parts A B C s0 s1 s2 s3 r a b c = two-parts A (AreInTurn B C) s0 s1 s3 r a (two-parts B C s1 s2 s3 r b c)

pub four-parts : {E : Type 0} (A B C D : List Shape → Type 0) (s0 s1 s2 s3 s4 : List Shape) (r : Result (Unit {0}) E) → Adds A s0 s1 → Adds B s1 s2 → Adds C s2 s3 → OnOk r (Adds D s3 s4)
    → OnOk r (Adds (AreInTurn A (AreInTurn B (AreInTurn C D))) s0 s4)
four-parts A B C D s0 s1 s2 s3 s4 r a b c d = two-parts A (AreInTurn B (AreInTurn C D)) s0 s1 s4 r a (three-parts B C D s1 s2 s3 s4 r b c d)

pub five-parts : {E : Type 0} (A B C D F : List Shape → Type 0) (s0 s1 s2 s3 s4 s5 : List Shape) (r : Result (Unit {0}) E) → Adds A s0 s1 → Adds B s1 s2 → Adds C s2 s3 → Adds D s3 s4 → OnOk r (Adds F s4 s5)
    → OnOk r (Adds (AreInTurn A (AreInTurn B (AreInTurn C (AreInTurn D F)))) s0 s5)
five-parts A B C D F s0 s1 s2 s3 s4 s5 r a b c d f = two-parts A (AreInTurn B (AreInTurn C (AreInTurn D F))) s0 s1 s5 r a (four-parts B C D F s1 s2 s3 s4 s5 r b c d f)
