-- The text of a picture, as SVG 1.1: an element for each shape, in their order. Where each shape stands is left open here: that is
-- looked at in a browser.
use Rattle.std.specs.Prelude.{◌≡◌, ℕ, zero, suc, ◌==◌, ◌&&◌, ◌%◌, nat_le, nat_lt, Bool, if◌then◌else◌, List, [], ◌∷◌, ◌++◌, length, codes, Option, Some, None, zip}
use Rattle.std.specs.List.{flat_map}
use Rattle.std.specs.Fmt.{signed_decimal}
use Rattle.script_text.specs.Grammar.{spaced}
use Rattle.tuple_header.specs.declared.version.Header.{Header}
use Rattle.tuple_header.specs.Marks.{is_heap_only, is_frozen}
use Rattle.commit_status.specs.declared.status.Status.{Status}
use Rattle.commit_status.specs.declared.status.Status.TheVariants as status
use Rattle.slot_fates.specs.declared.fate.SlotFate.{SlotFate}
use Rattle.slot_fates.specs.declared.fate.SlotFate.TheVariants as fate
use Rattle.shape_list.specs.declared.shape.Shape.{Shape}
use Rattle.shape_list.specs.declared.shape.Shape.TheVariants as shape
use Rattle.shape_list.specs.declared.shape.IdShape.{IdShape}
use Rattle.shape_list.specs.declared.shape.HorizonShape.{HorizonShape}
use Rattle.shape_list.specs.declared.shape.SessionShape.{SessionShape}
use Rattle.shape_list.specs.declared.shape.PageShape.{PageShape}
use Rattle.shape_list.specs.declared.shape.VersionShape.{VersionShape}
use Rattle.shape_list.specs.declared.shape.SlotShape.{SlotShape}
use Rattle.shape_list.specs.declared.shape.LinkShape.{LinkShape}
use Rattle.shape_list.specs.declared.shape.LinkKind.{LinkKind}
use Rattle.shape_list.specs.declared.shape.LinkKind.TheVariants as link
use Rattle.shape_list.specs.declared.shape.EntryShape.{EntryShape}
use Rattle.shape_list.specs.declared.shape.DotShape.{DotShape}
use Rattle.picture_layout.specs.declared.layout.Layout.{Layout}
use Rattle.picture_layout.specs.declared.layout.Spot.{Spot}
use Rattle.svg_text.specs.Sentences.{numbered, verdict_sentence}

-- Parts of elements.

-- the beginning of a text at a place
unfoldable pub text_at : (x y : ℕ) → List ℕ
text_at x y = numbered (codes "<text x='") x ++ (numbered (codes "' y='") y ++ codes "' dy='4'")

-- the same, of a word in a box
unfoldable pub word_at : (x y : ℕ) → List ℕ
word_at x y = text_at x y ++ codes ">"

-- a colour of a session; of eight, since its number stands beside it
abbrev pub colour_of : ℕ → List ℕ
colour_of n =
    if n == 0 then codes "#1f5fa8" else (if n == 1 then codes "#b5470f" else (if n == 2 then codes "#1f7a45" else (if n == 3 then codes "#7a3f99"
    else (if n == 4 then codes "#8a6500" else (if n == 5 then codes "#a3195b" else (if n == 6 then codes "#00707d" else codes "#444444"))))))

abbrev pub session_colour : ℕ → List ℕ
session_colour s = colour_of (s % 8)

-- The ids.

abbrev pub status_words : Status → List ℕ
status_words status.InProgress = codes "in progress"
status_words status.Committed = codes "committed"
status_words status.Aborted = codes "rolled back"

-- the session whose own it is
abbrev pub owner_words : Option ℕ → List ℕ
owner_words None = []
owner_words (Some s) = numbered (codes ", of session ") s

-- filled, a ring, or a ring that is crossed
abbrev pub ring_svg : Status → List ℕ
ring_svg status.InProgress = codes "' r='6' fill='#fff' stroke='#333' stroke-width='2'/>"
ring_svg status.Committed = codes "' r='6' fill='#333' stroke='#333' stroke-width='2'/>"
ring_svg status.Aborted = codes "' r='6' fill='#fff' stroke='#a00' stroke-width='2'/>"

abbrev pub cross_svg : Spot → Status → List ℕ
cross_svg spot status.InProgress = []
cross_svg spot status.Committed = []
cross_svg spot status.Aborted = numbered (codes "<path d='M") spot.x ++ (numbered (codes " ") spot.y ++ codes "m-4 -4l8 8m0 -8l-8 8' stroke='#a00' stroke-width='2'/>")

unfoldable pub id_ring : Spot → IdShape → List ℕ
id_ring spot id =
    numbered (codes "<g><title>id ") id.id.0 ++ (codes ": " ++ (status_words id.status ++ (owner_words id.owner
    ++ (numbered (codes "</title><circle cx='") spot.x ++ (numbered (codes "' cy='") spot.y ++ (ring_svg id.status ++ (cross_svg spot id.status ++ codes "</g>")))))))

abbrev pub owner_number : Spot → ℕ → List ℕ
owner_number spot s = text_at spot.x spot.lane ++ (numbered (codes " text-anchor='middle' font-size='10' fill='#666'>session ") s ++ codes "</text>")

abbrev pub owner_svg : Spot → Option ℕ → List ℕ
owner_svg spot None = []
owner_svg spot (Some s) = owner_number spot s

-- its ring, its number, and its session
abbrev pub id_svg : Spot → IdShape → List ℕ
id_svg spot id =
    id_ring spot id ++ (text_at spot.x spot.to ++ (numbered (codes " text-anchor='middle'>") id.id.0 ++ (codes "</text>" ++ owner_svg spot id.owner)))

abbrev pub some_older_words : ℕ → List ℕ
some_older_words n = numbered (codes " fill='#666'>ids, but for ") n ++ codes " older ones</text>"

-- how many are left out, if any
abbrev pub older_words : ℕ → List ℕ
older_words n = if n == 0 then codes " fill='#666'>ids</text>" else some_older_words n

abbrev pub ids_svg : Spot → ℕ → List ℕ
ids_svg spot left_out = text_at spot.x spot.y ++ older_words left_out

abbrev pub holder_words : Option ℕ → List ℕ
holder_words None = []
holder_words (Some s) = numbered (codes ", held back by session ") s

abbrev pub horizon_svg : Spot → HorizonShape → List ℕ
horizon_svg spot horizon =
    numbered (codes "<path d='M") spot.x ++ (numbered (codes " ") spot.y ++ (codes "v32' stroke='#a00' stroke-width='2'/>"
    ++ (text_at spot.x spot.y ++ (numbered (codes " dx='4' fill='#a00'>horizon ") horizon.horizon.0 ++ (holder_words horizon.holder ++ codes "</text>")))))

abbrev pub next_svg : Spot → ℕ → List ℕ
next_svg spot next =
    numbered (codes "<path d='M") spot.x ++ (numbered (codes " ") spot.y ++ (codes "v20' stroke='#666' stroke-width='2' stroke-dasharray='3 3'/>"
    ++ (text_at spot.x spot.to ++ (numbered (codes " dx='6' fill='#666'>next ") next ++ codes "</text>"))))

-- The sessions.

-- what it reads
abbrev pub reads_words : SessionShape → List ℕ
reads_words session =
    if session.by_statement then codes " by statement reads, in each, what has committed by then"
    else numbered (codes " reads what had committed when ") session.next.0 ++ codes " was the next id"

abbrev pub failed_words : Bool → List ℕ
failed_words failed = if failed then codes "; it has failed" else []

abbrev pub waits_words : Option ℕ → List ℕ
waits_words None = []
waits_words (Some s) = numbered (codes "; it waits for session ") s

abbrev pub session_svg : Spot → SessionShape → List ℕ
session_svg spot session =
    numbered (codes "<circle cx='") spot.x ++ (numbered (codes "' cy='") spot.y ++ (codes "' r='7' fill='" ++ (session_colour session.session
    ++ (codes "'/>" ++ (text_at spot.to spot.y ++ (numbered (codes "><tspan font-weight='bold'>session ") session.session
    ++ (codes "</tspan>" ++ (reads_words session ++ (failed_words session.failed ++ (waits_words session.waits_for ++ codes "</text>"))))))))))

-- Pages.

-- what the visibility map notes of it
abbrev pub noted_words : ℕ → List ℕ
noted_words bits = if bits == 0 then codes "nothing noted" else (if bits == 1 then codes "all-visible" else codes "all-frozen")

abbrev pub page_svg : Spot → PageShape → List ℕ
page_svg spot page =
    text_at spot.x spot.y ++ (numbered (codes "><tspan font-weight='bold'>page ") page.page ++ (numbered (codes "</tspan><tspan fill='#666'> change ") page.change
    ++ (numbered (codes ", ") page.room ++ (codes " bytes of room, " ++ (noted_words page.bits ++ codes "</tspan></text>")))))

-- Slots.

-- grey where it holds nothing, or a version that is dead
abbrev pub fill_of : (dead : Bool) → SlotFate → List ℕ
fill_of dead (fate.Version f) = if dead then codes "#d0d0d0" else codes "#fff"
fill_of dead (fate.Redirect to) = codes "#fff0b0"
fill_of dead fate.Dead = codes "#9a9a9a"
fill_of dead fate.Unused = codes "#f4f4f4"
fill_of dead fate.NoSlot = codes "#f4f4f4"

unfoldable pub box_svg : Layout → Spot → SlotShape → List ℕ
box_svg layout spot slot =
    numbered (codes "<rect x='") layout.box_x ++ (numbered (codes "' y='") spot.to ++ (numbered (codes "' width='") layout.box_width
    ++ (codes "' height='22' rx='3' stroke='#888' fill='" ++ (fill_of slot.dead slot.fate
    ++ (codes "'/>" ++ (text_at layout.number_x spot.y ++ (numbered (codes " text-anchor='end' fill='#555'>") slot.place.slot ++ codes "</text>")))))))

abbrev pub kind_words : Header → List ℕ
kind_words header = if is_heap_only header then codes "heap-only" else codes "root"

-- in brackets where it is frozen
abbrev pub xmin_words : Header → List ℕ
xmin_words header = if is_frozen header then numbered (codes "xmin (") header.xmin.0 ++ codes ")" else numbered (codes "xmin ") header.xmin.0

abbrev pub xmax_words : ℕ → List ℕ
xmax_words xmax = if xmax == 0 then codes "xmax -" else numbered (codes "xmax ") xmax

unfoldable pub header_svg : Layout → Spot → Header → List ℕ
header_svg layout spot header =
    word_at layout.kind_x spot.y ++ (kind_words header ++ (codes "</text>" ++ (word_at layout.xmin_x spot.y ++ (xmin_words header ++ (codes "</text>"
    ++ (word_at layout.xmax_x spot.y ++ (xmax_words header.xmax.0 ++ codes "</text>")))))))

-- a byte of a body: what is no printable character of ASCII is a point, and what XML would read is spelled
abbrev pub glyph_text : ℕ → List ℕ
glyph_text b =
    if b == 60 then codes "&lt;" else (if b == 38 then codes "&amp;" else (if nat_le 32 b && nat_lt b 127 then b ∷ [] else 46 ∷ []))

-- how long it is, where more follows
abbrev pub rest_words : (shown bytes : ℕ) → List ℕ
rest_words shown bytes = if nat_lt shown bytes then numbered (codes ".. (") bytes ++ codes " bytes)" else []

-- the first bytes of a body
abbrev pub body_words : VersionShape → List ℕ
body_words version = flat_map glyph_text version.body_start.items ++ rest_words (length version.body_start.items) version.body_bytes

unfoldable pub row_svg : Layout → Spot → VersionShape → List ℕ
row_svg layout spot version =
    word_at layout.key_x spot.y ++ (numbered (codes "key ") version.key ++ (codes "</text>" ++ (word_at layout.cols_x spot.y
    ++ (flat_map (λ c. spaced (signed_decimal c)) version.cols ++ (codes "</text>" ++ (word_at layout.body_x spot.y
    ++ (body_words version ++ codes "</text>")))))))

abbrev pub dead_svg : Layout → Spot → Bool → List ℕ
dead_svg layout spot dead = if dead then text_at layout.dead_x spot.y ++ codes " font-weight='bold'>dead</text>" else []

abbrev pub version_svg : Layout → Spot → Option VersionShape → List ℕ
version_svg layout spot None = []
version_svg layout spot (Some version) = header_svg layout spot version.header ++ row_svg layout spot version

abbrev pub redirect_svg : Layout → Spot → (to : ℕ) → List ℕ
redirect_svg layout spot to = word_at layout.kind_x spot.y ++ (numbered (codes "redirect to ") to ++ codes "</text>")

abbrev pub dead_slot_svg : Layout → Spot → List ℕ
dead_slot_svg layout spot = word_at layout.kind_x spot.y ++ codes "dead slot, until a vacuum frees it</text>"

abbrev pub unused_svg : Layout → Spot → List ℕ
unused_svg layout spot = word_at layout.kind_x spot.y ++ codes "unused</text>"

-- what stands there instead of a version
abbrev pub instead_svg : Layout → Spot → SlotFate → List ℕ
instead_svg layout spot (fate.Version f) = []
instead_svg layout spot (fate.Redirect to) = redirect_svg layout spot to
instead_svg layout spot fate.Dead = dead_slot_svg layout spot
instead_svg layout spot fate.Unused = unused_svg layout spot
instead_svg layout spot fate.NoSlot = []

abbrev pub slot_svg : Layout → Spot → SlotShape → List ℕ
slot_svg layout spot slot =
    box_svg layout spot slot ++ (instead_svg layout spot slot.fate ++ (version_svg layout spot slot.version ++ dead_svg layout spot slot.dead))

-- Arrows. Their heads are paths.

abbrev pub kind_colour : LinkKind → List ℕ
kind_colour link.Chain = codes "#1f5fa8"
kind_colour link.Redirect = codes "#8a6500"

abbrev pub kind_title : LinkKind → List ℕ
kind_title link.Chain = codes "the chain goes on from slot "
kind_title link.Redirect = codes "a redirect leads from slot "

-- from a slot to the lane, along it, and back to the other
abbrev pub link_svg : Spot → LinkShape → List ℕ
link_svg spot of =
    codes "<g><title>" ++ (numbered (kind_title of.kind) of.place.slot ++ (numbered (codes " to slot ") of.to
    ++ (numbered (codes "</title><path d='M") spot.x ++ (numbered (codes " ") spot.y ++ (numbered (codes "H") spot.lane ++ (numbered (codes "V") spot.to
    ++ (numbered (codes "H") spot.x ++ (codes "' fill='none' stroke-width='1.5' stroke='" ++ (kind_colour of.kind
    ++ (numbered (codes "'/><path d='M") spot.x ++ (numbered (codes " ") spot.to ++ (codes "l7 -4v8z' fill='" ++ (kind_colour of.kind ++ codes "'/></g>")))))))))))))

abbrev pub index_words : ℕ → List ℕ
index_words zero = codes "key "
index_words (suc column) = numbered (codes "column ") column ++ codes ": "

-- the index and the value, and an arrow to the box
abbrev pub entry_svg : Layout → Spot → EntryShape → List ℕ
entry_svg layout spot of =
    codes "<g>" ++ (text_at spot.x spot.y ++ (codes " text-anchor='end' fill='#05600a'>" ++ (index_words of.index ++ (signed_decimal of.entry.value
    ++ (numbered (codes "</text><path d='M") layout.arrow_x ++ (numbered (codes " ") spot.y ++ (numbered (codes "H") layout.box_x
    ++ (numbered (codes "' stroke='#05600a' stroke-width='1.5'/><path d='M") layout.box_x ++ (numbered (codes " ") spot.y ++ codes "l-7 -4v8z' fill='#05600a'/></g>")))))))))

-- Dots.

-- filled where the session sees the version, and its number in it
abbrev pub dot_fill : DotShape → List ℕ
dot_fill dot = if dot.filled then session_colour dot.session else codes "#fff"

abbrev pub dot_ink : Bool → List ℕ
dot_ink filled = if filled then codes "#fff" else codes "#222"

abbrev pub dot_svg : Spot → DotShape → List ℕ
dot_svg spot dot =
    codes "<g><title>" ++ (verdict_sentence dot.session dot.filled dot.verdict ++ (numbered (codes "</title><circle cx='") spot.x ++ (numbered (codes "' cy='") spot.y
    ++ (codes "' r='7.5' stroke-width='1.5' stroke='" ++ (session_colour dot.session ++ (codes "' fill='" ++ (dot_fill dot
    ++ (codes "'/>" ++ (text_at spot.x spot.y ++ (codes " text-anchor='middle' font-size='10' fill='" ++ (dot_ink dot.filled
    ++ (numbered (codes "'>") dot.session ++ codes "</text></g>"))))))))))))

-- The picture.

abbrev pub shape_svg : Layout → Spot → Shape → List ℕ
shape_svg layout spot (shape.Ids n) = ids_svg spot n
shape_svg layout spot (shape.Id id) = id_svg spot id
shape_svg layout spot (shape.Horizon horizon) = horizon_svg spot horizon
shape_svg layout spot (shape.Next next) = next_svg spot next.0
shape_svg layout spot (shape.Session session) = session_svg spot session
shape_svg layout spot (shape.Page page) = page_svg spot page
shape_svg layout spot (shape.Slot slot) = slot_svg layout spot slot
shape_svg layout spot (shape.Link of) = link_svg spot of
shape_svg layout spot (shape.Entry of) = entry_svg layout spot of
shape_svg layout spot (shape.Dot dot) = dot_svg spot dot

-- the elements of so many shapes, at their spots
abbrev pub shapes_svg : Layout → List (Spot × Shape) → List ℕ
shapes_svg layout placed = flat_map (λ (p : Spot × Shape). shape_svg layout p.0 p.1) placed

abbrev pub svg_head : Layout → List ℕ
svg_head layout =
    numbered (codes "<svg xmlns='http://www.w3.org/2000/svg' width='") layout.width ++ (numbered (codes "' height='") layout.height
    ++ (numbered (codes "' viewBox='0 0 ") layout.width ++ (numbered (codes " ") layout.height
    ++ codes "' font-family='ui-monospace, DejaVu Sans Mono, Menlo, Consolas, monospace' font-size='12' fill='#222'><rect width='100%' height='100%' fill='#fff'/>")))

-- some layout, and a spot for each shape: behind a text is the picture
pub record Draws (shapes : List Shape) (old new : List ℕ) : Type 0 where
  pub layout : Layout
  pub spots : List Spot
  pub each : length spots ≡ length shapes
  pub behind : new ≡ old ++ (svg_head layout ++ (shapes_svg layout (zip spots shapes) ++ codes "</svg>"))
