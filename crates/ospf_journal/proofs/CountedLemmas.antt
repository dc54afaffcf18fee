-- One link more, and one cause more.
use Rattle.std.proofs.Common.{◌≡◌, ◌<◌, ◌+◌, ◌++◌, ◌∷◌, ◌∙◌, ap, append-nil, sym, ℕ, List, [], flat_map, get_or, length, take}
use Rattle.std.specs.List.{enumerate_from}
use Rattle.std.proofs.lemmas.List.{append_assoc, take_more}
use Rattle.std.proofs.lemmas.List.Concat.{flat_map-append}
use Rattle.ospf_router.specs.declared.step.counts.DropCounts.{DropCounts}
use Rattle.ospf_router.specs.declared.step.dropped.Dropped.{Dropped}
use Rattle.ospf_journal.specs.Counted.{cause_line, link_lines}
use Rattle.ospf_journal.proofs.Enumerated.{one_more}

pub links_more : (xs : List DropCounts) (i : ℕ) (x : DropCounts) (old new : List ℕ) → i < length xs → x ≡ get_or xs i x
    → old ≡ flat_map link_lines (take i (enumerate_from 0 xs)) → new ≡ old ++ link_lines (i, x)
    → new ≡ flat_map link_lines (take (i + 1) (enumerate_from 0 xs))
links_more xs i x old new within is h k = k ∙ ap (λ ls. ls ++ link_lines (i, x)) h ∙ sym (one_more link_lines xs i x within is)

one_further : {X Y : Type 0} (f : X → List Y) (xs : List X) (i : ℕ) (x : X) → i < length xs → x ≡ get_or xs i x
    → flat_map f (take (i + 1) xs) ≡ flat_map f (take i xs) ++ f x
one_further f xs i x within is =
    ap (flat_map f) (take_more xs i x within ∙ ap (λ y. take i xs ++ y ∷ []) (sym is)) ∙ flat_map-append f (take i xs) (x ∷ [])
    ∙ ap (λ ys. flat_map f (take i xs) ++ ys) (append-nil (f x))

pub causes_more : (l : ℕ × DropCounts) (xs : List Dropped) (i : ℕ) (x : Dropped) (before old new : List ℕ) → i < length xs → x ≡ get_or xs i x
    → old ≡ before ++ flat_map (cause_line l) (take i xs) → new ≡ old ++ cause_line l x
    → new ≡ before ++ flat_map (cause_line l) (take (i + 1) xs)
causes_more l xs i x before old new within is h k =
    k ∙ ap (λ ls. ls ++ cause_line l x) h ∙ append_assoc before (flat_map (cause_line l) (take i xs)) (cause_line l x)
    ∙ ap (λ ls. before ++ ls) (sym (one_further (cause_line l) xs i x within is))
