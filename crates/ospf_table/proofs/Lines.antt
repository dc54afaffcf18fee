-- Faults of lines, and the lines of an input.
use Rattle.std.proofs.Common.{◌≡◌, ◌≢◌, ◌<◌, ◌≤◌, ◌↔◌, ℕ, suc, ◌+◌, Bool, true, false, cond, IsTrue, List, [], length, Option, None, Some, IfSome, sym, subst, refl, arith}
use Rattle.std.specs.Io.BufRead.{take_through, drop_through, DropsThrough}
use mir.Val.{bool_byte}
use Rattle.std.specs.Io.KnownBytes.{IsAtEnd}
use Rattle.ospf_lsa.specs.declared.fault.LsaFault.TheVariants as lsa_fault
use Rattle.ospf_lsa.specs.declared.listing.ListingFault.TheVariants as listing_fault
use Rattle.ospf_table.specs.Fault.{IsMemoryFault, IsLineRefusal}
use Rattle.ospf_table.specs.Line.{HasLineFault, IsLeftOut, IsTaken, LeavesOut, Reads, at_end, at_line, no_line, no_more, one_more, Refuses, here, later, text_of, first_text}
use Rattle.ospf_table.specs.declared.line.LineFault.TheVariants.{NotHex, Lsa}
use Rattle.ospf_table.specs.declared.table.EntryFault.{EntryFault}
use Rattle.ospf_table.specs.declared.table.EntryFault.TheVariants.{Line, Listing}
use Rattle.ospf_table.specs.declared.table.TableFault.{TableFault}
use Rattle.ospf_table.specs.declared.table.TableFault.TheVariants.{Entry, Failure}

-- what is left of the input and the listing so far lead to what the whole input leads to
pub record LeadsTo (whole : List ℕ) (rest : Option (List ℕ)) (listing : List (List ℕ)) (number : ℕ) : Type 0 where
  pub left : List ℕ
  pub rest_is : rest ≡ Some left
  pub reads : (new : List (List ℕ)) → Reads left listing new → Reads whole [] new
  pub refuses : (more : ℕ) (fault : EntryFault) → Refuses left listing (suc more) fault → Refuses whole [] (number + more) fault

pub map_some : {A : Type 0} (o : Option A) (P Q : A → Type 0) → ((a : A) → P a → Q a) → IfSome o P → IfSome o Q
map_some None P Q f h = h
map_some (Some a) P Q f h = f a h

pub leads_at_start : (start : Option (List ℕ)) → IfSome start (λ whole. LeadsTo whole start [] 1)
leads_at_start None = tt
leads_at_start (Some whole) = record {
  left = whole;
  rest_is = refl;
  reads = λ new h. h;
  refuses = λ more fault h. let P : ℕ → Type 0 = λ n. Refuses whole [] n fault in subst P (omega arith) h;
}

-- a line that was read, which is not empty
pub record IsRead (rest : Option (List ℕ)) (line text : List ℕ) : Type 0 where
  pub line_is : IfSome rest (λ xs. line ≡ take_through 10 xs)
  pub some : 0 < length line
  pub text_is : text ≡ text_of line

is_more : (left line : List ℕ) → 0 < length line → line ≡ take_through 10 left → left ≢ []
is_more left line some e z =
    let empty : length line ≡ 0 = rw (e, z) refl in
    absurd (omega arith)

text_here : (rest : Option (List ℕ)) (left line text : List ℕ) → IsRead rest line text → rest ≡ Some left
    → (text ≡ first_text left) × (left ≢ [])
text_here rest left line text r e =
    let line_is : line ≡ take_through 10 left = subst (λ (o : Option (List ℕ)). IfSome o (λ xs. line ≡ take_through 10 xs)) e r.line_is in
    (subst (λ (t : List ℕ). text ≡ text_of t) line_is r.text_is, is_more left line r.some line_is)

pub leads_on : (start rest after : Option (List ℕ)) (old new : List (List ℕ)) (number : ℕ) (line text : List ℕ)
    → IfSome start (λ whole. LeadsTo whole rest old number) → IsRead rest line text → DropsThrough rest after 10
    → IsTaken text old new → IfSome start (λ whole. LeadsTo whole after new (number + 1))
leads_on start rest after old new number line text led r drops taken = map_some start _ _ (λ whole leads.
    let at = text_here rest leads.left line text r leads.rest_is in
    let taken_here : IsTaken (first_text leads.left) old new = subst (λ (t : List ℕ). IsTaken t old new) at.0 taken in
    let made : LeadsTo whole after new (number + 1) = record {
      left = drop_through 10 leads.left;
      rest_is = subst (λ (o : Option (List ℕ)). DropsThrough o after 10) leads.rest_is drops;
      reads = λ last h. leads.reads last (at_line at.1 taken_here h);
      refuses = λ n fault h.
          let P : ℕ → Type 0 = λ k. Refuses whole [] k fault in
          subst P (omega arith) (leads.refuses (suc n) fault (later at.1 taken_here h));
    } in made) led

pub ends_reads : (start rest : Option (List ℕ)) (listing : List (List ℕ)) (number : ℕ)
    → IfSome start (λ whole. LeadsTo whole rest listing number) → IsAtEnd rest → IfSome start (λ whole. Reads whole [] listing)
ends_reads start rest listing number led done = map_some start _ _ (λ whole leads.
    let nil : leads.left ≡ [] = subst IsAtEnd leads.rest_is done in
    leads.reads listing (subst (λ (l : List ℕ). Reads l listing listing) (sym nil) at_end)) led

pub refused_here : (start rest : Option (List ℕ)) (listing : List (List ℕ)) (number n : ℕ) (line text : List ℕ) (fault f : EntryFault)
    → IfSome start (λ whole. LeadsTo whole rest listing number) → IsRead rest line text → HasLineFault text listing fault
    → number ≡ n → fault ≡ f → IfSome start (λ whole. Refuses whole [] n f)
refused_here start rest listing number n line text fault f led r h same_number same_fault = map_some start _ _ (λ whole leads.
    let at = text_here rest leads.left line text r leads.rest_is in
    let fault_is : HasLineFault (first_text leads.left) listing fault = subst (λ (t : List ℕ). HasLineFault t listing fault) at.0 h in
    let P : ℕ → Type 0 = λ k. Refuses whole [] k fault in
    let Q : EntryFault → Type 0 = λ k. Refuses whole [] n k in
    subst Q same_fault (subst P (omega arith) (leads.refuses 0 fault (here at.1 fault_is)))) led

-- want of memory is no fault of a text
pub not_memory : (text : List ℕ) (listing : List (List ℕ)) (fault : EntryFault) → HasLineFault text listing fault → IsMemoryFault fault → ⊥
not_memory text listing (Line NotHex) h m = m
not_memory text listing (Line (Lsa lsa_fault.Short)) h m = m
not_memory text listing (Line (Lsa lsa_fault.Length)) h m = m
not_memory text listing (Line (Lsa lsa_fault.Sum)) h m = m
not_memory text listing (Line (Lsa lsa_fault.Kind)) h m = m
not_memory text listing (Line (Lsa lsa_fault.Links)) h m = m
not_memory text listing (Line (Lsa lsa_fault.Mask)) h m = m
not_memory text listing (Line (Lsa lsa_fault.ZeroMetric)) h m = m
not_memory text listing (Line (Lsa lsa_fault.IdMismatch)) h m = m
not_memory text listing (Line (Lsa lsa_fault.Number)) h m = m
not_memory text listing (Line (Lsa lsa_fault.Memory)) h m = h.1.2.broken tt
not_memory text listing (Listing listing_fault.Twice) h m = m
not_memory text listing (Listing listing_fault.MaxAge) h m = m
not_memory text listing (Listing listing_fault.Memory) h m = let e : listing_fault.Memory ≡ listing_fault.Twice = h.1.0 in cc

-- ---- lines that are left out

-- what is left of the input and the number so far lead to what the whole input leads to
pub record CountsTo (whole : List ℕ) (rest : Option (List ℕ)) (count : ℕ) : Type 0 where
  pub left : List ℕ
  pub rest_is : rest ≡ Some left
  pub counts : (n : ℕ) → LeavesOut left n → LeavesOut whole (count + n)

-- a truth value as the number that is added
pub counted_byte : (b : Bool) → (bool_byte b ≡ cond b 1 0) × (cond b 1 0 ≤ 1)
counted_byte true = (refl, omega arith)
counted_byte false = (refl, omega arith)

counted_here : (left : List ℕ) (is : Bool) (n : ℕ) → left ≢ [] → (IsTrue is ↔ IsLeftOut (first_text left)) → LeavesOut (drop_through 10 left) n
    → LeavesOut left (cond is 1 0 + n)
counted_here left true n some is h =
    let P : ℕ → Type 0 = λ k. LeavesOut left k in subst P (omega arith) (one_more some (is.0 refl) h)
counted_here left false n some is h =
    let P : ℕ → Type 0 = λ k. LeavesOut left k in
    subst P (omega arith) (no_more some (λ out. absurd (let e : false ≡ true = is.1 out in cc)) h)

pub counts_on : (start rest after : Option (List ℕ)) (is : Bool) (old new : ℕ) (line text : List ℕ)
    → IfSome start (λ whole. CountsTo whole rest old) → IsRead rest line text → DropsThrough rest after 10
    → (IsTrue is ↔ IsLeftOut text) → new ≡ old + cond is 1 0 → IfSome start (λ whole. CountsTo whole after new)
counts_on start rest after is old new line text led r drops out new_is = map_some start _ _ (λ whole leads.
    let at = text_here rest leads.left line text r leads.rest_is in
    let out_here : IsTrue is ↔ IsLeftOut (first_text leads.left) = subst (λ (t : List ℕ). IsTrue is ↔ IsLeftOut t) at.0 out in
    let made : CountsTo whole after new = record {
      left = drop_through 10 leads.left;
      rest_is = subst (λ (o : Option (List ℕ)). DropsThrough o after 10) leads.rest_is drops;
      counts = λ n h.
          let P : ℕ → Type 0 = λ k. LeavesOut whole k in
          subst P (omega (arith, new_is)) (leads.counts (cond is 1 0 + n) (counted_here leads.left is n at.1 out_here h));
    } in made) led

pub ends_counts : (start rest : Option (List ℕ)) (count : ℕ) → IfSome start (λ whole. CountsTo whole rest count) → IsAtEnd rest
    → IfSome start (λ whole. LeavesOut whole count)
ends_counts start rest count led done = map_some start _ _ (λ whole leads.
    let nil : leads.left ≡ [] = subst IsAtEnd leads.rest_is done in
    let P : ℕ → Type 0 = λ k. LeavesOut whole k in
    subst P (omega arith) (leads.counts 0 (subst (λ (l : List ℕ). LeavesOut l 0) (sym nil) no_line))) led
