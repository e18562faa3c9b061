-- What is printed and read again is the statement that was printed, unless its canonical text breaks a limit.
use Rattle.std.proofs.Common.{inl, inr, ◌≡◌, ℕ, List, Result, Ok, Err, sym, ap, subst, ◌∙◌}
use Rattle.std.specs.Prelude.{IsUtf8, IfOk, IfErr}
use Rattle.lb_stmt.specs.declared.write.Stmt.{Stmt}
use Rattle.lb_tok.specs.declared.lex.ReadFault.{ReadFault}
use Rattle.lb_tok.specs.declared.lex.ReadFault.TheVariants as faults
use Rattle.lb_tok.specs.Canonical.{canonical}
use Rattle.lb_tok.specs.Spelled.{IsSpoken}
use Rattle.lb_tok.specs.Syntax.{IsTextOf, FailsSo, IsBeyond}
use Rattle.lb_read.proofs.Again.{beyond}
use Rattle.lb_read.proofs.Trees.{keeps}
use Rattle.lb_readable.specs.declared.statement.Readable.{Readable}
use Rattle.lb_readable.specs.Again.{HoldsStatementOf, IsRefusedSo, IsReadAgain, FailsAgain}

-- ---- a canonical text

-- it is read
pub read_again : (s t : Stmt) (bytes text : List ℕ) → IsSpoken s → bytes ≡ text → text ≡ canonical s → IsTextOf bytes t → IsReadAgain s (record { stmt = t; text = text })
read_again s t bytes text h same e r =
    let reads : IsTextOf (canonical s) t = subst (λ (v : List ℕ). IsTextOf v t) (same ∙ e) r in
    let k = keeps s t h reads in
    record {
      same = k.0;
      canonical_text = e;
      reads = subst (λ (u : Stmt). IsTextOf (canonical s) u) k.0 reads;
      within = k.1;
    }

-- it goes wrong
pub wrong_again : (s : Stmt) (text : List ℕ) (fault : ReadFault) (at : ℕ) → IsSpoken s → text ≡ canonical s → IsUtf8 text → fault ≡ faults.Syntax at → FailsSo text fault → IsBeyond s
wrong_again s text fault at h e u is fails =
    let wrong : FailsSo text (faults.Syntax at) = subst (λ (f : ReadFault). FailsSo text f) is fails in
    beyond s at h (subst (λ (v : List ℕ). IsUtf8 v) e u) (subst (λ (v : List ℕ). FailsSo v (faults.Syntax at)) e wrong)

-- ---- a text whose statement it is

read_of : (text : List ℕ) (s : Stmt) (r : Readable) → IsTextOf text s → IsReadAgain s r → HoldsStatementOf text r
read_of text s r reads h = record {
  reads = record { reads = subst (λ (u : Stmt). IsTextOf text u) (sym h.same) reads; again = λ b. h.within (subst (λ (u : Stmt). IsBeyond u) h.same b) };
  canonical_text = h.canonical_text ∙ ap canonical (sym h.same);
  again = subst (λ (u : Stmt). IsTextOf r.text u) (sym h.same) (subst (λ (v : List ℕ). IsTextOf v s) (sym h.canonical_text) h.reads);
}

refused_of : (text : List ℕ) (s : Stmt) (fault : ReadFault) → IsTextOf text s → FailsAgain s fault → IsRefusedSo text fault
refused_of text s faults.NoMemory reads h = tt
refused_of text s (faults.Syntax at) reads h = inr (s, reads, h.0, h.1)

-- what is said of the canonical text is said of the text
pub all_read_of : (text : List ℕ) (s : Stmt) (result : Result Readable ReadFault) → IsTextOf text s → IfOk result (IsReadAgain s) → IfOk result (HoldsStatementOf text)
all_read_of text s (Ok r) reads h = read_of text s r reads h
all_read_of text s (Err fault) reads h = h

pub all_refused_of : (text : List ℕ) (s : Stmt) (result : Result Readable ReadFault) → IsTextOf text s → IfErr result (FailsAgain s) → IfErr result (IsRefusedSo text)
all_refused_of text s (Ok r) reads h = h
all_refused_of text s (Err fault) reads h = refused_of text s fault reads h

-- ---- a text that is not read

pub refused_first : (text : List ℕ) (fault : ReadFault) → FailsSo text fault → IsRefusedSo text fault
refused_first text faults.NoMemory h = tt
refused_first text (faults.Syntax at) h = inl h
