use Rattle.std.proofs.Common.{rules, ◌≡◌, ◌+◌, ℕ, cond, arith, inl, inr, sym, ap, ◌∙◌}
use Rattle.ospf_table.specs.Line.{text_of}
use Rattle.ospf_table.specs.declared.table.TableFault.TheVariants.{Entry, Failure}
use Rattle.ospf_files.specs.declared.status.Failure.TheVariants as failure
use Rattle.ospf_table.proofs.Lines.{counted_byte, counts_on, ends_counts, ends_reads, leads_on, refused_here, not_memory, IsRead}
use Rattle.ospf_table.proofs.table.read_entries.Goals as goal

pub returns-in-Ok-eq0-clause-whole : goal.returns-in-Ok-eq0-clause-whole
returns-in-Ok-eq0-clause-whole g c =
    ends_reads _ (g.R.Read.remaining c.loop-number.input) _ _ c.loop-number.invariant.reads (c.in-Ok-eq0.ensures.end (search rules))

pub returns-in-Ok-eq0-clause-counted : goal.returns-in-Ok-eq0-clause-counted
returns-in-Ok-eq0-clause-counted g c =
    ends_counts _ (g.R.Read.remaining c.loop-number.input) _ c.loop-number.invariant.counts (c.in-Ok-eq0.ensures.end (search rules))

pub returns-in-Err-take_entry-clause-refused : goal.returns-in-Err-take_entry-clause-refused
returns-in-Err-take_entry-clause-refused g c = λ n f e.
    let line = c.read_until.new.buf.items in
    let made : c.of_entry.result ≡ Entry n f = cc in
    let bytes = rw c.clear.ensures.items at c.in-Ok.ensures.bytes in
    let read : IsRead (g.R.Read.remaining c.loop-number.input) line c.without_end.result.now = record {
      line_is = bytes;
      some = omega (arith, c.read_until.new.buf.ok.0, c.in-Ok.ensures.ok);
      text_is = c.without_end.ensures ∙ ap text_of c.deref.ensures.value;
    } in
    elim c.in-Err-take_entry.ensures.fault [
      | inl m ↦ let no_memory : Failure failure.Memory ≡ Entry n f = sym (c.of_entry.ensures.memory m) ∙ made in cc
      | inr h ↦
          let entry = c.of_entry.ensures.entry (not_memory _ _ _ h) in
          refused_here _ _ _ _ _ line _ _ _ c.loop-number.invariant.reads read h (cc) (cc)
    ]

pub loop-number-preserved : goal.loop-number-preserved
loop-number-preserved g c =
    let line = c.read_until.new.buf.items in
    let bytes = rw c.clear.ensures.items at c.in-Ok.ensures.bytes in
    let read : IsRead (g.R.Read.remaining c.loop-number.input) line c.without_end.result.now = record {
      line_is = bytes;
      some = omega (arith, c.read_until.new.buf.ok.0, c.in-Ok.ensures.ok);
      text_is = c.without_end.ensures ∙ ap text_of c.deref.ensures.value;
    } in
    let byte = counted_byte c.in-Ok-take_entry.is_left_out in
    let added : c.from-left_out.result ≡ cond c.in-Ok-take_entry.is_left_out 1 0 = c.from-left_out.ensures ∙ byte.0 in
    record {
      reads = leads_on _ _ _ _ _ _ line _ c.loop-number.invariant.reads read c.in-Ok.ensures.rest c.in-Ok-take_entry.ensures.ok;
      counts = counts_on _ _ _ c.in-Ok-take_entry.is_left_out _ _ line _ c.loop-number.invariant.counts read c.in-Ok.ensures.rest c.in-Ok-take_entry.ensures.left_out (ap (λ (n : ℕ). c.loop-number.left_out + n) added);
      fewer = omega (arith, added, byte.1, c.loop-number.invariant.fewer);
    }
