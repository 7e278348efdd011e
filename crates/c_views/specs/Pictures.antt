-- The picture of a table, in places of C's.
use Rattle.std.specs.Prelude.{◌≡◌, ◌⊎◌, ◌<◌, ◌≤◌, ℕ, List, length}
use Rattle.xid_circle.specs.Numbers.{PageNo, Count}
use Rattle.tuple_header.specs.Layout.{with_bytes}
use Rattle.calls.specs.declared.reply.Refusal.TheVariants as refusal
use Rattle.session_core.specs.State.{WaitingView}
use Rattle.shapes.specs.declared.fault.PictureFault.{PictureFault}
use Rattle.shapes.specs.declared.fault.PictureFault.TheVariants as fault
use Rattle.shapes.specs.Shapes.{IsPictureFault}
use Rattle.shapes.specs.Pictures.{pages_asked, IsPictureText}
use Rattle.c_handles.specs.declared.status.CallStatus.{CallStatus}
use Rattle.c_handles.specs.declared.status.CallStatus.TheVariants as status
use Rattle.c_handles.specs.CallStatus.{number_of_status}

abbrev pub status_of_picture_fault : PictureFault → CallStatus
status_of_picture_fault fault.TooManyPages = status.TooManyPages
status_of_picture_fault (fault.NoSuchPage p) = status.Refused refusal.NoSuchPage
status_of_picture_fault fault.NoMemory = status.Refused refusal.NoMemory

-- C's first places have the text, if they are enough; all others are as they were
abbrev pub ShowsText : (text old : List ℕ) → (code : ℕ) → (new : List ℕ) → Type 0
ShowsText text old code new =
    ((length old < length text) × (code ≡ number_of_status status.NoPlace) × (new ≡ old))
    ⊎ ((length text ≤ length old) × (code ≡ number_of_status status.Found) × (new ≡ with_bytes 0 text old))

-- the picture of the pages that were asked for, or of all, is shown, and its length told; else why there is none
abbrev pub ShowsPicture : WaitingView → List PageNo → (old : List ℕ) → (code : ℕ) → (new : List ℕ) → Count → Type 0
ShowsPicture engine pages old code new size =
    ((text : List ℕ) × IsPictureText engine (pages_asked pages engine.engine.core) text × ShowsText text old code new × (size ≡ length text))
    ⊎ ((f : PictureFault) × IsPictureFault engine.engine.core (pages_asked pages engine.engine.core) f
    × (code ≡ number_of_status (status_of_picture_fault f)) × (new ≡ old) × (size ≡ 0))
