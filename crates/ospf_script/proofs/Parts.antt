-- The words of a text, taken off one by one.
use Rattle.std.proofs.Common.{◌≡◌, ◌<◌, ◌+◌, ◌≤◌, inl, inr, ℕ, true, false, not, cond, List, [], ◌∷◌, length, take, drop, get_or, refl, sym, ap, ◌∙◌, arith}
use Rattle.std.specs.List.{All, filter, slice_split, onto_first, position_or_len, prefix_len}
use Rattle.std.proofs.lemmas.Bool.{cases_lt, eqb-true, eq-eqb, ne_eqb}
use Rattle.std.proofs.lemmas.List.Elements.{All-head, All-tail}
use Rattle.std.proofs.lemmas.List.Splits.{slice_split_first, slice_split_none}
use Rattle.std.proofs.lemmas.List.Sums.{fails_before_first, passes_at_first, prefix_len_stops, prefix_len_passes, prefix_len-le-length}
use Rattle.std.proofs.lemmas.Grind.{common_steps}
use Rattle.ospf_base.specs.Text.{IsBlank}
use Rattle.ospf_script.specs.Words.{Text, is_space, is_word, line_words}

pub position-le : (text : Text) → position_or_len is_space text ≤ length text
position-le text = prefix_len-le-length (λ b. not (is_space b)) text

true-false : true ≡ false → ⊥
true-false e = cc

after_one : (b : ℕ) (bs : Text) (n : ℕ) → drop (1 + n) (b ∷ bs) ≡ drop n bs
after_one b bs n = grind (arith, common_steps)

-- a space in front belongs to no word
words-space : (b : ℕ) (bs : Text) → is_space b ≡ true → line_words (b ∷ bs) ≡ line_words bs
words-space b bs e = ap (λ s. filter is_word (cond s ([] ∷ slice_split is_space bs) (onto_first b (slice_split is_space bs)))) e

-- nor do several
pub words-after_spaces : (text : Text) → line_words (drop (prefix_len is_space text) text) ≡ line_words text
words-after_spaces [] = refl
words-after_spaces (b ∷ bs) =
    elim (is_space b) as (λ s. is_space b ≡ s → line_words (drop (cond s (1 + prefix_len is_space bs) 0) (b ∷ bs)) ≡ line_words (b ∷ bs)) [
      | true ↦ λ e. ap line_words (after_one b bs (prefix_len is_space bs)) ∙ words-after_spaces bs ∙ sym (words-space b bs e)
      | false ↦ λ e. refl
    ] refl

-- a text without a first word is of spaces alone
pub blank_behind : (text rest : Text) → rest ≡ drop (prefix_len is_space text) text → position_or_len is_space rest ≡ 0 → IsBlank text
blank_behind text rest r h =
    let n : ℕ = prefix_len is_space text in
    let ends : length text ≤ n = elim (cases_lt n (length text)) [
      | inl l ↦
          let stops : is_space (get_or text n 0) ≡ false = prefix_len_stops is_space text 0 l in
          let some : 0 < length rest = grind (arith, common_steps) in
          let passes : is_space (get_or rest 0 0) ≡ true = rw h at (passes_at_first is_space rest 0 (omega arith)) in
          let same : get_or rest 0 0 ≡ get_or text n 0 = grind (arith, common_steps) in
          absurd (true-false (sym passes ∙ ap is_space same ∙ stops))
      | inr m ↦ m
    ] in
    λ k d l.
    let space : is_space (get_or text k d) ≡ true = prefix_len_passes is_space text k d (omega arith) in
    eqb-true _ 32 space

pub filter-word : (word : Text) (parts : List Text) → 0 < length word → filter is_word (word ∷ parts) ≡ word ∷ filter is_word parts
filter-word [] parts h = absurd (omega arith)
filter-word (b ∷ bs) parts h = ap (λ t. cond (not t) ((b ∷ bs) ∷ filter is_word parts) (filter is_word parts)) (ne_eqb (length (b ∷ bs)) 0 (λ z. omega (arith, h)))

-- the first word, and those of what stands behind it
pub words-first : (text : Text) → 0 < position_or_len is_space text
    → line_words text ≡ take (position_or_len is_space text) text ∷ line_words (drop (position_or_len is_space text) text)
words-first text h =
    let n : ℕ = position_or_len is_space text in
    elim (cases_lt n (length text)) [
      | inl l ↦
          let cut : slice_split is_space text ≡ take n text ∷ slice_split is_space (drop (n + 1) text) = slice_split_first is_space text 0 l in
          let long : 0 < length (take n text) = grind (arith, common_steps) in
          let space : is_space (get_or text n 0) ≡ true = passes_at_first is_space text 0 l in
          let behind : drop n text ≡ get_or text n 0 ∷ drop (n + 1) text = grind (arith, common_steps) in
          let others : line_words (drop n text) ≡ line_words (drop (n + 1) text) = ap line_words behind ∙ words-space _ (drop (n + 1) text) space in
          ap (filter is_word) cut ∙ filter-word (take n text) (slice_split is_space (drop (n + 1) text)) long ∙ ap (λ (ws : List Text). take n text ∷ ws) (sym others)
      | inr m ↦
          let none : All (λ b. is_space b ≡ false) text = λ k d l. fails_before_first is_space text k d (omega arith) in
          let all : take n text ≡ text = grind (arith, common_steps) in
          let nothing : drop n text ≡ [] = grind (arith, common_steps) in
          ap (filter is_word) (slice_split_none is_space text none) ∙ filter-word text [] (omega (arith, position-le text)) ∙ rw (all, nothing) refl
    ]

-- a blank text has no words
pub words-blank : (text : Text) → IsBlank text → line_words text ≡ []
words-blank [] h = refl
words-blank (b ∷ bs) h =
    let space : is_space b ≡ true = eq-eqb b 32 (All-head (λ x. x ≡ 32) b bs h) in
    words-space b bs space ∙ words-blank bs (All-tail (λ x. x ≡ 32) b bs h)
