-- What the promise comes to. One outcome: two that it allows for the same input are equal, in the
-- answer and in every byte of the output, for the file is one list of bytes, and either it fits or
-- it does not. And what is written is a map with the same crossings.
use Rattle.std.specs.Prelude.{◌≡◌, List, ◌↔◌, ℕ, length, take, drop, Result, Ok, Err}
use Rattle.std.proofs.Common.{sym, ap, ◌∙◌, arith, take_at}
use Rattle.field.specs.Map.{On}
use Rattle.field.specs.declared.refusals.Refusal.{Refusal}
use Rattle.field.specs.Workings.Sheet.{Marked}
use Rattle.field.proofs.Workings.Marks.{marked_dec}
use Rattle.mapfile.specs.File.{MapFile, FileRock}
use Rattle.mapfile.specs.Written.{Written}
use Rattle.mapfile.proofs.WrittenLaws.{written_one, written_map}
use Rattle.sheets.specs.Promise.{Fits}
use Rattle.writer.specs.Promise.{Writes}

-- The file is the same for both.
file_one : (w h : ℕ) (s file other : List ℕ) → Written w h (Marked s w h) file → Written w h (Marked s w h) other → file ≡ other
file_one w h s file other p q = written_one w h (Marked s w h) (λ x y o. marked_dec s w h x y) file other p q

pub writes_one : (w h : ℕ) (s out after other : List ℕ) (r t : Result ℕ Refusal) → Writes w h s out after r → Writes w h s out other t
    → (r ≡ t) × (after ≡ other)
writes_one w h s out after other (Ok n) (Ok m) p q =
    let file : p.file ≡ q.file = file_one w h s p.file q.file p.written q.written in
    let size : n ≡ m = p.counted ∙ ap length file ∙ sym q.counted in
    (ap Ok size, p.is ∙ rw (file, size) (sym q.is))
writes_one w h s out after other (Ok n) (Err t) p (u, q) =
    let file : p.file ≡ q.file = file_one w h s p.file q.file p.written q.written in
    absurd (omega (arith, ap length file, p.counted, p.fits, q.long))
writes_one w h s out after other (Err r) (Ok m) (u, p) q =
    let file : p.file ≡ q.file = file_one w h s p.file q.file p.written q.written in
    absurd (omega (arith, ap length file, q.counted, q.fits, p.long))
writes_one w h s out after other (Err r) (Err t) (u, p) (v, q) = (ap Err (u ∙ sym v), p.same ∙ sym q.same)

-- "Reading a written map ... gives the same crossings": the bytes written are a map by the grammar,
-- and its rocks are the sheet's marks.
pub writes_map : (w h : ℕ) (s out after : List ℕ) (n : ℕ) → Fits w h s → Writes w h s out after (Ok n)
    → (bits : List ℕ) × MapFile (take n after) w h bits × ((x y : ℕ) → (FileRock w h bits x y ↔ Marked s w h x y))
writes_map w h s out after n asked p = (m.0, rw front m.1, λ x y. (λ f. ((m.2 x y).0 f).1, λ k. (m.2 x y).1 (k.on, k)))
  where
    m : (bits : List ℕ) × MapFile p.file w h bits × ((x y : ℕ) → (FileRock w h bits x y ↔ (On w h x y × Marked s w h x y)))
    m = written_map w h (Marked s w h) (λ x y o. marked_dec s w h x y) p.file asked.sides p.written

    front : take n after ≡ p.file
    front = ap (take n) p.is ∙ take_at p.file (drop n out) n (sym p.counted)
