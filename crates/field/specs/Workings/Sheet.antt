-- Sheets as lists: what a sheet marks, and the workings' tools: rows made from a function, a mark
-- as 0 or 1, a crossing's marked neighbours.
use Rattle.std.specs.Prelude.{◌≡◌, refl, ◌&&◌, List, [], ◌∷◌, ◌++◌, ℕ, zero, suc, ◌+◌, ◌*◌, ◌/◌, ◌%◌, ◌<◌, ltb, length, get_or}
use Rattle.std.proofs.Common.{ap, ◌∙◌, arith, zero-add, mul-le-mul_right, mod-lt, div-add-mod', div-lt_iff_lt-mul, length-append, get_or-append-add, ext_get_or}
use Rattle.std.proofs.Math.ListN.{get_or-append}
use Rattle.field.specs.Map.{On, number, at}
pub use Rattle.field.specs.Workings.Tests.{bit}

-- (x, y) is on the map, and the sheet has a mark there: something else than 0.
pub record Marked (s : List ℕ) (w h x y : ℕ) : Type 0 where
  pub on : On w h x y
  pub mark : 0 < at s w x y

-- The sheet's marks are the crossings of C, no more and no fewer.
pub record Draws (w h : ℕ) (C : ℕ → ℕ → Type 0) (s : List ℕ) : Type 0 where
  pub sound : (x y : ℕ) → Marked s w h x y → C x y
  pub complete : (x y : ℕ) → C x y → Marked s w h x y

-- A sheet draws what it marks.
pub marked_draws : (w h : ℕ) (s : List ℕ) → Draws w h (Marked s w h) s
marked_draws w h s = record { sound = λ x y m. m; complete = λ x y m. m }

-- 1 where the sheet has a mark at (x, y), on the map, and else 0.
unfoldable pub lit : List ℕ → ℕ → ℕ → ℕ → ℕ → ℕ
lit s w h x y = bit (ltb x w && (ltb y h && ltb 0 (at s w x y)))

-- The same of its neighbour to the west, and to the south: 0 at the edge.
unfoldable pub west_of : List ℕ → ℕ → ℕ → ℕ → ℕ → ℕ
west_of s w h zero y = 0
west_of s w h (suc x) y = lit s w h x y

unfoldable pub south_of : List ℕ → ℕ → ℕ → ℕ → ℕ → ℕ
south_of s w h x zero = 0
south_of s w h x (suc y) = lit s w h x y

-- How many neighbours of (x, y) are marked.
unfoldable pub around : List ℕ → ℕ → ℕ → ℕ → ℕ → ℕ
around s w h x y = lit s w h (x + 1) y + west_of s w h x y + lit s w h x (y + 1) + south_of s w h x y

-- f k, f (k + 1), .., n numbers.
unfoldable pub row : ℕ → ℕ → (ℕ → ℕ) → List ℕ
row zero k f = []
row (suc n) k f = f k ∷ row n (suc k) f

-- n rows of w numbers, from row k on.
unfoldable pub rows_from : ℕ → ℕ → ℕ → (ℕ → ℕ → ℕ) → List ℕ
rows_from w zero k f = []
rows_from w (suc n) k f = row w 0 (λ x. f x k) ++ rows_from w n (suc k) f

-- The sheet that holds f x y for each crossing.
unfoldable pub sheet : ℕ → ℕ → (ℕ → ℕ → ℕ) → List ℕ
sheet w h f = rows_from w h 0 f

row_length : (n k : ℕ) (f : ℕ → ℕ) → length (row n k f) ≡ n
unfolding row
row_length zero k f = refl
row_length (suc n) k f = ap suc (row_length n (suc k) f)

row_at : (n k : ℕ) (f : ℕ → ℕ) (i : ℕ) → i < n → get_or (row n k f) i 0 ≡ f (k + i)
unfolding row
row_at zero k f i l = absurd (omega arith)
row_at (suc n) k f zero l = ap f (omega arith)
row_at (suc n) k f (suc i) l = row_at n (suc k) f i (omega arith) ∙ ap f (omega arith)

rows_length : (w n k : ℕ) (f : ℕ → ℕ → ℕ) → length (rows_from w n k f) ≡ n * w
unfolding rows_from
rows_length w zero k f = omega arith
rows_length w (suc n) k f =
    length-append (row w 0 (λ x. f x k)) (rows_from w n (suc k) f) ∙ omega (arith, row_length w 0 (λ x. f x k), rows_length w n (suc k) f)

rows_at : (w n k : ℕ) (f : ℕ → ℕ → ℕ) (x y : ℕ) → x < w → y < n → get_or (rows_from w n k f) (y * w + x) 0 ≡ f x (k + y)
unfolding rows_from
rows_at w zero k f x y p q = absurd (omega arith)
rows_at w (suc n) k f x zero p q =
    ap (λ (i : ℕ). get_or (row w 0 (λ x. f x k) ++ rows_from w n (suc k) f) i 0) (omega arith)
    ∙ get_or-append (row w 0 (λ x. f x k)) (rows_from w n (suc k) f) 0 x (omega (arith, row_length w 0 (λ x. f x k)))
    ∙ row_at w 0 (λ x. f x k) x p
    ∙ ap (λ (i : ℕ). f i k) (zero-add x) ∙ ap (f x) (omega arith)
rows_at w (suc n) k f x (suc y) p q =
    ap (λ (i : ℕ). get_or (row w 0 (λ x. f x k) ++ rows_from w n (suc k) f) i 0) (omega (arith, row_length w 0 (λ x. f x k)))
    ∙ get_or-append-add (row w 0 (λ x. f x k)) (rows_from w n (suc k) f) (y * w + x) 0
    ∙ rows_at w n (suc k) f x y p (omega arith) ∙ ap (f x) (omega arith)

pub sheet_length : (w h : ℕ) (f : ℕ → ℕ → ℕ) → length (sheet w h f) ≡ h * w
unfolding sheet
sheet_length w h f = rows_length w h 0 f

pub sheet_at : (w h : ℕ) (f : ℕ → ℕ → ℕ) (x y : ℕ) → On w h x y → at (sheet w h f) w x y ≡ f x y
unfolding sheet
sheet_at w h f x y o = rows_at w h 0 f x y o.in_x o.in_y ∙ ap (f x) (zero-add y)

-- The crossing that has the number i.
pub record Crossing (w h i : ℕ) : Type 0 where
  pub x : ℕ
  pub y : ℕ
  pub on : On w h x y
  pub is : number w x y ≡ i

pub crossing : (w h i : ℕ) → i < h * w → Crossing w h i
crossing zero h i l = absurd (omega arith)
crossing (suc w) h i l =
    record {
      x = i % suc w;
      y = i / suc w;
      on = record { in_x = mod-lt i (omega arith); in_y = (div-lt_iff_lt-mul {k = suc w} {x = i} {y = h} (omega arith)).1 l };
      is = div-add-mod' i (suc w);
    }

pub number_lt : (w h x y : ℕ) → On w h x y → number w x y < h * w
number_lt w h x y o = omega (arith, mul-le-mul_right {m = suc y} {n = h} w o.in_y, o.in_x)

-- Two sheets of one size are equal where they agree at every crossing.
pub sheet_same : (w h : ℕ) (s t : List ℕ) → length s ≡ h * w → length t ≡ h * w → ((x y : ℕ) → On w h x y → at s w x y ≡ at t w x y) → s ≡ t
sheet_same w h s t p q f = ext_get_or 0 s t (omega arith) (λ i l. by_number i (crossing w h i (omega arith)))
  where
    by_number : (i : ℕ) → Crossing w h i → get_or s i 0 ≡ get_or t i 0
    by_number i c = rw c.is at (f c.x c.y c.on)
