-- What failed outside, and what is written then.
use Rattle.std.proofs.Common.{ℕ, ◌+◌, ◌-◌, List, ◌++◌, length, take, take-add, drop, ap, append_assoc, ◌∙◌, sym, Option, None, Some, Bool, Ok, Err}
use Rattle.std.specs.Io.KnownBytes.{Appends, Keeps}
use Rattle.std.proofs.lemmas.List.{take-append-drop, take_rest}
use Rattle.transcript.specs.declared.begins.Begins.{Begins}
use Rattle.transcript.specs.declared.begins.Until.{Until}
use Rattle.transcript.specs.declared.fault.Fault.{Fault}
use Rattle.transcript.specs.declared.fault.Fault.TheVariants.{BadLine, Input, Output, NoMemory}
use Rattle.transcript.specs.Failures.{Failures, IsOfWriter, WritesFront}
use Rattle.transcript.specs.Transcripts.{JudgesText, TranscriptOutcome}

-- a beginning of what is said was written
pub unwritten : (begins : Begins) (until : Until) (allowed : Bool) (e : Fault) (failures : Failures) (input out : List ℕ) (before after : Option (List ℕ)) → IsOfWriter e failures → JudgesText begins until (Ok allowed) input out
    → WritesFront before after out → TranscriptOutcome begins until (Err e) input before after
unwritten begins until allowed (BadLine n) failures input out before after is judged front = absurd is
unwritten begins until allowed Input failures input out before after is judged front = absurd is
unwritten begins until allowed Output failures input out before after is judged front = (allowed, out, judged, front)
unwritten begins until allowed NoMemory failures input out before after is judged front = absurd is

-- A text is written in pieces.

pub front_written : (before mid after : Option (List ℕ)) (text : List ℕ) (n : ℕ) → Appends before mid (take n text) → Keeps mid after → WritesFront before after text
front_written None mid after text n there keeps = (take n text, drop n text, tt, sym (take-append-drop n text))
front_written (Some xs) None after text n there keeps = absurd there
front_written (Some xs) (Some ys) None text n there keeps = absurd keeps
front_written (Some xs) (Some ys) (Some zs) text n there keeps = (take n text, drop n text, keeps ∙ there, sym (take-append-drop n text))

Appends-Appends : (a b c : Option (List ℕ)) (xs ys : List ℕ) → Appends a b xs → Appends b c ys → Appends a c (xs ++ ys)
Appends-Appends None b c xs ys h k = tt
Appends-Appends (Some u) None c xs ys h k = absurd h
Appends-Appends (Some u) (Some v) None xs ys h k = absurd k
Appends-Appends (Some u) (Some v) (Some w) xs ys h k = k ∙ ap (λ r. r ++ ys) h ∙ append_assoc u xs ys

-- what was written so far, and then more
pub Appends-more : (a b c : Option (List ℕ)) (text : List ℕ) (w n : ℕ) → Appends a b (take w text) → Appends b c (take n (take (length text - w) (drop w text))) → Appends a c (take (w + n) text)
Appends-more a b c text w n h k =
    let k' = rw (take_rest text w) at k in
    rw (take-add w n text) (Appends-Appends a b c (take w text) (take n (drop w text)) h k')
