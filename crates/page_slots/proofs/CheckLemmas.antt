-- The first fault of bytes, by its parts; and what bytes without one keep.
use Rattle.std.proofs.Common.{◌≡◌, ℕ, ◌+◌, ◌-◌, ◌*◌, ◌/◌, ◌<◌, ◌≤◌, List, Option, Some, None, Ok, Err, sym, ap, ◌∙◌, refl, arith, subst}
use Rattle.std.specs.Option.{option_or}
use Rattle.page_layout.specs.declared.faults.PageFault.{PageFault}
use Rattle.page_layout.specs.Layout.{lower_in, slot_count_in, pointer_in, word_of}
use Rattle.page_slots.specs.Reading.{page_of}
use Rattle.page_layout.specs.Sound.{IsSound, IsPointer}
use Rattle.page_layout.specs.Faults.{frame_fault, slot_fault, first_among, word_in}
use Rattle.page_slots.specs.Faults.{redirect_fault, overlap_fault, page_fault, unless_fault, checking}
use Rattle.page_slots.specs.Marking.{AreClear}
use Rattle.page_layout.proofs.FirstLemmas.{or-none, or-some, none-each}
use Rattle.page_layout.proofs.FaultLemmas.{IsFramed, pointer-from_none, plain-from_none}

abbrev slots_have : List ℕ → ℕ → Option PageFault
slots_have bytes count = first_among (slot_fault bytes) count

abbrev redirects_have : List ℕ → ℕ → Option PageFault
redirects_have bytes count = first_among (redirect_fault bytes) count

abbrev overlaps_have : List ℕ → ℕ → Option PageFault
overlaps_have bytes count = first_among (overlap_fault bytes) count

-- The fault of the bytes.

split_up : (bytes : List ℕ) (count : ℕ) → count ≡ slot_count_in bytes
    → page_fault bytes ≡ option_or (frame_fault bytes) (option_or (slots_have bytes count) (option_or (redirects_have bytes count) (overlaps_have bytes count)))
unfolding page_fault
split_up bytes count e =
    ap (λ (n : ℕ). option_or (frame_fault bytes) (option_or (slots_have bytes n) (option_or (redirects_have bytes n) (overlaps_have bytes n)))) (sym e)

in_frame : (bytes : List ℕ) (fault : PageFault) → frame_fault bytes ≡ Some fault → page_fault bytes ≡ Some fault
in_frame bytes fault is = split_up bytes (slot_count_in bytes) refl ∙ or-some (frame_fault bytes) _ fault is

behind_frame : (bytes : List ℕ) (count : ℕ) → count ≡ slot_count_in bytes → frame_fault bytes ≡ None
    → page_fault bytes ≡ option_or (slots_have bytes count) (option_or (redirects_have bytes count) (overlaps_have bytes count))
behind_frame bytes count e none = split_up bytes count e ∙ or-none (frame_fault bytes) _ none

behind_slots : (bytes : List ℕ) (count : ℕ) → count ≡ slot_count_in bytes → frame_fault bytes ≡ None → slots_have bytes count ≡ None
    → page_fault bytes ≡ option_or (redirects_have bytes count) (overlaps_have bytes count)
behind_slots bytes count e none each = behind_frame bytes count e none ∙ or-none (slots_have bytes count) _ each

pub behind_redirects : (bytes : List ℕ) (count : ℕ) → count ≡ slot_count_in bytes → frame_fault bytes ≡ None → first_among (slot_fault bytes) count ≡ None
    → first_among (redirect_fault bytes) count ≡ None → page_fault bytes ≡ first_among (overlap_fault bytes) count
behind_redirects bytes count e none each sound = behind_slots bytes count e none each ∙ or-none (redirects_have bytes count) _ sound

-- What they read as.

found : (bytes : List ℕ) (fault : PageFault) → page_fault bytes ≡ Some fault → Err fault ≡ checking bytes
found bytes fault is = ap (unless_fault (page_of bytes)) (sym is)

pub checked-frame : (bytes : List ℕ) (fault : PageFault) → frame_fault bytes ≡ Some fault → Err fault ≡ checking bytes
checked-frame bytes fault is = found bytes fault (in_frame bytes fault is)

pub checked-slot : (bytes : List ℕ) (count : ℕ) (fault : PageFault) → count ≡ slot_count_in bytes → frame_fault bytes ≡ None
    → first_among (slot_fault bytes) count ≡ Some fault → Err fault ≡ checking bytes
checked-slot bytes count fault e none is = found bytes fault (behind_frame bytes count e none ∙ or-some (slots_have bytes count) _ fault is)

pub checked-redirect : (bytes : List ℕ) (count : ℕ) (fault : PageFault) → count ≡ slot_count_in bytes → frame_fault bytes ≡ None
    → first_among (slot_fault bytes) count ≡ None → first_among (redirect_fault bytes) count ≡ Some fault → Err fault ≡ checking bytes
checked-redirect bytes count fault e none each is =
    found bytes fault (behind_slots bytes count e none each ∙ or-some (redirects_have bytes count) _ fault is)

pub checked-overlap : (bytes : List ℕ) (count : ℕ) (fault : PageFault) → count ≡ slot_count_in bytes → frame_fault bytes ≡ None
    → first_among (slot_fault bytes) count ≡ None → first_among (redirect_fault bytes) count ≡ None → first_among (overlap_fault bytes) count ≡ Some fault
    → Err fault ≡ checking bytes
checked-overlap bytes count fault e none each sound is = found bytes fault (behind_redirects bytes count e none each sound ∙ is)

pub checked-page : (bytes : List ℕ) → page_fault bytes ≡ None → Ok (page_of bytes) ≡ checking bytes
checked-page bytes none = ap (unless_fault (page_of bytes)) (sym none)

-- What they keep.

pub good-pointers : (bytes : List ℕ) (count : ℕ) → count ≡ slot_count_in bytes → first_among (slot_fault bytes) count ≡ None
    → (i : ℕ) → i < count → IsPointer bytes count (pointer_in bytes i)
good-pointers bytes count e none i within =
    subst (λ (n : ℕ). IsPointer bytes n (pointer_in bytes i)) (sym e) (pointer-from_none bytes i (none-each (slot_fault bytes) count none i within))

pub plain-words : (bytes : List ℕ) (count : ℕ) → first_among (slot_fault bytes) count ≡ None
    → (i : ℕ) → i < count → word_in bytes i ≡ word_of (pointer_in bytes i)
plain-words bytes count none i within = plain-from_none bytes i (none-each (slot_fault bytes) count none i within)

pub few-slots : (bytes : List ℕ) (count : ℕ) → count ≡ slot_count_in bytes → IsFramed bytes → (24 + 4 * count ≡ lower_in bytes) × (count ≤ 291)
few-slots bytes count e framed =
    let least = framed.least in
    let most = framed.most in
    let whole = framed.whole in
    let same : lower_in bytes ≡ 24 + 4 * ((lower_in bytes - 24) / 4) = omega arith in
    (omega arith, omega arith)

pub sound-clear : (bytes : List ℕ) (count units : ℕ) → count ≡ slot_count_in bytes → IsFramed bytes → ((i : ℕ) → i < count → IsPointer bytes count (pointer_in bytes i))
    → ((i : ℕ) → i < count → word_in bytes i ≡ word_of (pointer_in bytes i)) → AreClear bytes count units → IsSound bytes count
sound-clear bytes count units e framed good plain clear =
    let few = few-slots bytes count e framed in
    let gap = framed.gap in
    record {
      long = framed.long;
      few = few.1;
      lower = sym few.0;
      gap = omega (arith, few.0);
      upper = framed.upper;
      aligned = framed.aligned;
      headed = framed.headed;
      pointers = good;
      plain = plain;
      apart = clear.apart;
    }

pub fits-clear : (bytes : List ℕ) (count units : ℕ) → count ≡ slot_count_in bytes → IsFramed bytes → AreClear bytes count units → 4 * count + 8 * units ≤ 8168
fits-clear bytes count units e framed clear =
    let few = few-slots bytes count e framed in
    let gap = framed.gap in
    let fits = clear.fits in
    omega (arith, few.0)
