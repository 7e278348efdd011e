-- The bytes of a page, in places of C's.
use Rattle.std.specs.Prelude.{◌≡◌, ◌⊎◌, ◌<◌, ◌≤◌, ℕ, List, length, take, drop, Option, Some, None, slice_get}
use Rattle.xid_circle.specs.Numbers.{PageNo}
use Rattle.page_slots.specs.View.{PageView}
use Rattle.page_slots.specs.Reading.{page_of}
use Rattle.page_slots.specs.Faults.{AreSoundRedirects, page_fault}
use Rattle.page_layout.specs.declared.sizes.TheConstants.{PAGE_BYTES}
use Rattle.session_steps.specs.State.{State}
use Rattle.c_handles.specs.declared.status.CallStatus.TheVariants as status
use Rattle.c_handles.specs.CallStatus.{number_of_status}

-- the first bytes are those of the page, with no fault where each redirect leads to a heap-only version; those behind are as they were
pub record AreBytesOf (page : PageView) (old new : List ℕ) : Type 0 where
  pub reads : page_of (take PAGE_BYTES new) ≡ page
  pub accepted : AreSoundRedirects page.slots → page_fault (take PAGE_BYTES new) ≡ None
  pub rest : drop PAGE_BYTES new ≡ drop PAGE_BYTES old

-- C's places have the bytes of the page, if there is one and they are enough, and are else as they were; the status says which
abbrev pub ShowsBytes : Option PageView → List ℕ → ℕ → List ℕ → Type 0
ShowsBytes None old code new = (code ≡ number_of_status status.NoRow) × (new ≡ old)
ShowsBytes (Some page) old code new =
    ((length old < PAGE_BYTES) × (code ≡ number_of_status status.NoPlace) × (new ≡ old))
    ⊎ ((PAGE_BYTES ≤ length old) × (code ≡ number_of_status status.Found) × AreBytesOf page old new)

-- the page of this number, counted from 0, if it is in use
abbrev pub page_numbered : State → PageNo → Option PageView
page_numbered st number = slice_get st.heap.pages.pages number
