-- The texts of which a story is made.
use Rattle.std.specs.Prelude.{ℕ, ◌==◌, if◌then◌else◌, List, [], ◌∷◌, ◌++◌, codes}
use Rattle.std.specs.List.{flat_map}
use Rattle.reasons.specs.Reasons.{verdict_shows}
use Rattle.view_text.specs.declared.versions.VersionLook.{VersionLook}
use Rattle.view_text.specs.declared.versions.EntryLook.{EntryLook}
use Rattle.script_text.specs.Grammar.{with_feed}
use Rattle.svg_text.specs.Sentences.{numbered, verdict_sentence}
use Rattle.viewing.specs.Viewing.{ViewEvent, view_line, view_answer}

-- a byte as HTML has it in a text
abbrev pub escaped : ℕ → List ℕ
escaped b = if b == 60 then codes "&lt;" else (if b == 62 then codes "&gt;" else (if b == 38 then codes "&amp;" else b ∷ []))

abbrev pub html : List ℕ → List ℕ
html text = flat_map escaped text

-- What a read of a key finds.

abbrev pub version_html : (session : ℕ) → VersionLook → List ℕ
version_html session v =
    numbered (codes "<p>Slot ") v.shown.slot ++ (codes ": " ++ (verdict_sentence session (verdict_shows v.shown.verdict) v.shown.verdict ++ codes "</p>"))

abbrev pub versions_html : (session : ℕ) → List VersionLook → List ℕ
versions_html session versions = flat_map (λ v. version_html session v) versions

abbrev pub place_html : (key : ℕ) → EntryLook → List ℕ
place_html key look =
    numbered (codes "<p>An entry of key ") key ++ (numbered (codes " leads to slot ") look.place.slot ++ (numbered (codes " of page ") look.place.page ++ codes ".</p>"))

-- an entry, and the versions of the chain there
abbrev pub entry_html : (session key : ℕ) → EntryLook → List ℕ
entry_html session key look = place_html key look ++ versions_html session look.versions.items

abbrev pub entries_html : (session key : ℕ) → List EntryLook → List ℕ
entries_html session key entries = flat_map (λ look. entry_html session key look) entries

abbrev pub no_entry_html : (key : ℕ) → List ℕ
no_entry_html key = numbered (codes "<p>No entry has key ") key ++ codes ".</p>"

abbrev pub explanation_html : (session key : ℕ) → List EntryLook → List ℕ
explanation_html session key [] = no_entry_html key
explanation_html session key (x ∷ xs) = entries_html session key (x ∷ xs)

-- Lines.

-- the first line, and another with its answer
abbrev pub first_item : (line : List ℕ) → List ℕ
first_item line = codes "<li>" ++ (html line ++ codes "</li>")

abbrev pub item_html : (line answer : List ℕ) → List ℕ
item_html line answer = codes "<li>" ++ (html line ++ (codes "<i>" ++ (html answer ++ codes "</i></li>")))

abbrev pub items_html : List ViewEvent → List ℕ
items_html events = flat_map (λ e. item_html (view_line e) (with_feed (view_answer e))) events

-- what is told of a line, with the picture behind it
abbrev pub head_html : (line : List ℕ) → List ℕ
head_html line = codes "<section><h1>" ++ (html line ++ codes "</h1>")

abbrev pub section_html : (line explained picture : List ℕ) → List ℕ
section_html line explained picture = head_html line ++ (explained ++ (picture ++ codes "</section>"))
