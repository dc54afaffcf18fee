-- Lines of a text, with their numbers: a line ends with a line feed, with a carriage return and a
-- line feed, or with the text.
use Rattle.std.specs.Prelude.{◌≡◌, ◌≢◌, ◌==◌, ℕ, List, [], ◌∷◌, ◌++◌, map, take}
use Rattle.std.specs.List.{All, enumerate_from, position_or_len}
use Rattle.std.specs.Str.Lines as std
use Rattle.ospf_files.specs.declared.line.Line.{Line}

-- the lines of a text without their ends
abbrev pub lines_of : List ℕ → List (List ℕ)
lines_of text = std.lines text

-- the line contains no line feed
abbrev pub HasNoFeed : List ℕ → Type 0
HasNoFeed line = All (λ byte. byte ≢ 10) line

-- a text is its first line, what ends that, and the rest: the end of the text; or a line feed; or a
-- carriage return and a line feed
pub data BeginsWithLine (text line rest : List ℕ) : Type 0 where
  with_text : HasNoFeed line → text ≡ line → rest ≡ [] → BeginsWithLine text line rest
  with_feed : HasNoFeed line → ((front : List ℕ) → line ≢ front ++ 13 ∷ [])
      → text ≡ line ++ 10 ∷ rest → BeginsWithLine text line rest
  with_return : HasNoFeed line → text ≡ line ++ 13 ∷ 10 ∷ rest → BeginsWithLine text line rest

-- the number and the text of a line
abbrev pub numbered_line : Line → ℕ × List ℕ
numbered_line line = (line.number, line.text.now)

-- a line without its comment, which begins at the first #
abbrev pub uncommented : List ℕ → List ℕ
uncommented line = take (position_or_len (λ b. b == 35) line) line

-- the lines without their comments, with their numbers, from this one on
abbrev pub numbered_from : ℕ → List ℕ → List (ℕ × List ℕ)
numbered_from number text = enumerate_from number (map uncommented (lines_of text))
