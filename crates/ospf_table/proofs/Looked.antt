-- Lookups in the one table that is published.
use Rattle.std.proofs.Common.{◌≡◌, ◌∙◌, ◌+◌, ◌<◌, ap, sym, subst, refl, ◌%◌, ℕ, List, [], ◌∷◌, ◌++◌, length, get_or, take, slice_get, Option, None, Some, inl, inr, arith, length-append}
use mathlib.Core.List.{IsPrefix}
use Rattle.ospf_base.specs.declared.ids.Addr.{Addr}
use Rattle.ospf_graph.specs.declared.hop.NextHop.{NextHop}
use Rattle.ospf_fib.specs.PrefixIndex.Known.{Table, opening}
use Rattle.ospf_fib.specs.declared.answer.Answer.{Answer}
use Rattle.ospf_fib.specs.Answers.{IsAnswer, IsAnswerOfLast}
use Rattle.ospf_files.specs.Shown.{lookup_line}
use Rattle.ospf_graph.specs.declared.route.Route.{Route}
use Rattle.std.proofs.lemmas.List.{take_more}
use Rattle.ospf_table.specs.Output.{AreLookups, IsLookupLine}
use Rattle.ospf_table.proofs.Written.{more_lookups}

-- a list of two tables ends with the second
last_of : (before : List Table) (t last : Table) → opening ++ t ∷ [] ≡ before ++ last ∷ [] → last ≡ t
last_of [] t last e = absurd (cc e)
last_of (a ∷ []) t last e = cc e
last_of (a ∷ b ∷ rest) t last e =
    absurd (omega (arith, ap length e, length-append rest (last ∷ [])))

-- the hop at choice 0 is the first
first_hop : (hops : List NextHop) (hop : NextHop) → slice_get hops (0 % length hops) ≡ Some hop → (others : List NextHop) × (hops ≡ hop ∷ others)
first_hop [] hop e = absurd (cc e)
first_hop (x ∷ xs) hop e =
    let first : 0 % length (x ∷ xs) ≡ 0 = omega arith in
    let same : slice_get (x ∷ xs) 0 ≡ Some hop = sym (ap (slice_get (x ∷ xs)) first) ∙ e in (xs, cc same)

-- what a table answers is its line
of_table : (table : Table) (version : ℕ) (address : Addr) (answer : Option Answer) → IsAnswer table version address 0 answer
    → IsLookupLine table address.0 (lookup_line address.0 answer)
of_table table version address None h = inl (record { none = h; line_is = refl })
of_table table version address (Some a) h =
    let first = first_hop h.route.hops a.hop h.hop_is in
    inr (record { route = h.route; best = h.best; hop = a.hop; others = first.0; hops = first.1; line_is = rw (h.prefix_is, h.cost_is) refl })

pub found_line : (tables : List Table) (table : Table) (address : Addr) (answer : Option Answer) → tables ≡ opening ++ table ∷ []
    → IsAnswerOfLast tables address 0 answer → IsLookupLine table address.0 (lookup_line address.0 answer)
found_line tables table address answer is h =
    let same : h.table ≡ table = last_of h.last.before table h.table (sym is ∙ h.last.ends) in
    of_table table h.version address answer (subst (λ t. IsAnswer t h.version address 0 answer) same h.answers)

-- lists that begin each other are one
pub both_begin : {A : Type 0} (xs ys : List A) → IsPrefix xs ys → IsPrefix ys xs → xs ≡ ys
both_begin [] [] p q = refl
both_begin [] (y ∷ ys) p q = absurd (cc (q.1))
both_begin (x ∷ xs) [] p q = absurd (cc (p.1))
both_begin (x ∷ xs) (y ∷ ys) p q = let rest = both_begin xs ys (p.0, cc (p.1)) (q.0, cc (q.1)) in cc (p.1, rest)

-- ---- as text

-- the line of one address more
pub next_lookup : (table : List Route) (addresses : List Addr) (i : ℕ) (d : Addr) (lines line text : List ℕ) → i < length addresses → text ≡ lines ++ line
    → AreLookups table (take i addresses) lines → IsLookupLine table (get_or addresses i d).0 line → AreLookups table (take (i + 1) addresses) text
next_lookup table addresses i d lines line text within text_is so_far is =
    subst (AreLookups table (take (i + 1) addresses)) (sym text_is)
    (subst (λ (front : List Addr). AreLookups table front (lines ++ line)) (sym (take_more addresses i d within))
    (more_lookups table (take i addresses) lines (get_or addresses i d) line so_far is))

-- the first of the hops, and the others
pub first_item : (hops : List NextHop) (hop : NextHop) → slice_get hops 0 ≡ Some hop → (others : List NextHop) × (hops ≡ hop ∷ others)
first_item [] hop e = absurd (cc e)
first_item (x ∷ xs) hop e = (xs, cc e)
