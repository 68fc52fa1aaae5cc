-- `write_stamped` meets its contract: what the writer answers is what the call's third part
-- promises.
use Rattle.std.proofs.Common.{refl, ap, ◌∙◌, List, ◌++◌, inl, inr, ℕ, length, drop, arith}
use Rattle.std.specs.Prelude.{Result, Ok, Err}
use Rattle.field.specs.declared.refusals.Refusal.{Refusal}
use Rattle.field.specs.Workings.Sheet.{Marked}
use Rattle.field.proofs.Workings.Marks.{marked_dec}
use Rattle.mapfile.proofs.WrittenLaws.{written_one}
use Rattle.writer.specs.Promise.{Writes}
use Rattle.calls.specs.Rules.{TooShort}
use Rattle.exchange.specs.Promise.{WriteRest}
use Rattle.exchange.proofs.write_stamped.Goals as goal

rest : (w h : ℕ) (sheet out out' : List ℕ) (r : Result ℕ Refusal) → Writes w h sheet out out' r → WriteRest w h sheet out out' r
rest w h sheet out out' (Ok n) q =
    record {
      given = inr (fits, refl);
      done = record {
        file = q.file;
        written = q.written;
        counted = q.counted;
        is = q.is ∙ ap (λ (j : ℕ). q.file ++ drop j out) q.counted;
      };
    }
  where
    fits : ¬ TooShort w h (Marked sheet w h) out
    fits t =
        omega (arith, t.short, q.fits, q.counted, ap length (written_one w h (Marked sheet w h) (λ x y o. marked_dec sheet w h x y) t.file q.file t.written q.written))
rest w h sheet out out' (Err r) (e, q) =
    rw e (record { given = inl (record { file = q.file; written = q.written; short = q.long }, refl); kept = q.same })

pub returns : goal.returns
returns c = rest _ _ _ _ _ c.write.result c.write.ensures
