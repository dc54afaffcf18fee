-- Words that a caller gives as the lines of a text.
use Rattle.std.specs.Prelude.{◌≡◌, ℕ, List, String, map, string_bytes}
use Rattle.std.specs.Str.Lossy.{utf8_lossy}
use Rattle.std.specs.declared.alloc.Global.{Global}
use Rattle.ospf_files.specs.Lines.{lines_of}

-- the words are the lines of the text, in which U+FFFD stands for what is not UTF-8
abbrev pub AreWords : List ℕ → List (String Global) → Type 0
AreWords text words = map string_bytes words ≡ lines_of (utf8_lossy text)
