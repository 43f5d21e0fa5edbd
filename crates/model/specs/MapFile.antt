-- The map file: bytes (numbers below 256) to a map or a refusal with its field (RULES 5), as one field after another over a state. Definitions only.
use Rattle.std.specs.Prelude.{ℕ, zero, suc, ◌+◌, ◌-◌, ◌*◌, ◌/◌, ◌%◌, Bool, false, not, cond, ◌&&◌, ◌||◌, List, [], ◌∷◌, eqb, ltb, length, take, drop, get_or, ℤ, pos, negsuc, Float}
use Rattle.std.specs.Float.{binary64}
use Rattle.std.specs.Float.Ieee.{of_bits}
use Rattle.ieee.specs.Constants.{nought}
use Rattle.model.specs.Limits.{max_batch}
use Rattle.model.specs.Map.{Map, Entry, batch}
use Rattle.model.specs.Refusal.{first_due, bad_size, bad_radius, refusal, step, nothing, opened}

-- ---- numbers, big-endian
unfoldable pub big_endian : ℕ → List ℕ → ℕ
big_endian n [] = n
big_endian n (b ∷ l) = big_endian (n * 256 + b) l

abbrev pub float64 : List ℕ → Float
float64 l = of_bits binary64 (big_endian 0 l)

-- 4 bytes as an i32
abbrev pub int32 : List ℕ → ℤ
int32 l = let n = big_endian 0 l in cond (ltb n 2147483648) (pos n) (negsuc (4294967295 - n))

-- ---- the value of a field 03: entries of 9 bytes, x and y, then 0 or 1
abbrev pub entry_bytes : ℕ
entry_bytes = 9

abbrev pub entry_of : List ℕ → Entry
entry_of b = record { x = int32 (take 4 b); y = int32 (take 4 (drop 4 b)); full = eqb (get_or b 8 0) 1 }

unfoldable pub entries : ℕ → List ℕ → List Entry
entries zero b = []
entries (suc n) b = entry_of b ∷ entries n (drop entry_bytes b)

-- some entry's last byte is neither 0 nor 1
unfoldable pub bad_flag : ℕ → List ℕ → Bool
bad_flag zero b = false
bad_flag (suc n) b = ltb 1 (get_or b 8 0) || bad_flag n (drop entry_bytes b)

-- ---- reading: what is expected, the number of the field that is expected, and what was read so far
pub data Expected : Type 0 where
  size : Expected
  radius : Expected
  batches : Expected
  end : Expected

pub record Reader : Type 0 where
  pub expected : Expected
  pub field : ℕ
  pub cell_size : Float
  pub map : Map

abbrev pub begin : Reader
begin = record { expected = size; field = 0; cell_size = nought; map = nothing }

pub data Reading : Type 0 where
  more : Reader → List ℕ → Reading
  refused : ℕ → ℕ → Reading
  done : Map → Reading

-- the tags that may come here
abbrev pub placed : Expected → ℕ → Bool
placed size t = eqb t 1
placed radius t = eqb t 2
placed batches t = eqb t 3 || eqb t 255
placed end t = false

-- the lengths that a tag may have
abbrev pub fitting : ℕ → ℕ → Bool
fitting t n = cond (eqb t 3) (eqb (n % entry_bytes) 0) (eqb n (cond (eqb t 255) 0 8))

-- the field was taken: what is expected next, and what was read
abbrev pub onward : Reader → Expected → Float → Map → Reader
onward r e c m = record { expected = e; field = suc r.field; cell_size = c; map = m }

-- a field whose tag, length and value v are well-formed: the library's own refusals, then on to the next field
unfoldable pub take_size : Reader → List ℕ → List ℕ → Reading
take_size r v rest = let c = float64 v in cond (bad_size c) (refused 1 r.field) (more (onward r radius c nothing) rest)

unfoldable pub take_radius : Reader → List ℕ → List ℕ → Reading
take_radius r v rest = let q = float64 v in cond (bad_radius r.cell_size q) (refused 2 r.field) (more (onward r batches r.cell_size (opened r.cell_size q)) rest)

unfoldable pub take_batch : Reader → List ℕ → List ℕ → Reading
take_batch r v rest =
    let o = batch (entries (length v / entry_bytes) v) in
    let n = refusal o r.map in
    cond (eqb n 0) (more (onward r batches r.cell_size (step o r.map)) rest) (refused n r.field)

abbrev pub take_end : Reader → List ℕ → Reading
take_end r rest = more (onward r end r.cell_size r.map) rest

abbrev pub taken : Expected → Reader → ℕ → List ℕ → List ℕ → Reading
taken size r t v rest = take_size r v rest
taken radius r t v rest = take_radius r v rest
taken batches r t v rest = let a = take_batch r v rest in let b = take_end r rest in cond (eqb t 3) a b
taken end r t v rest = refused 10 r.field

-- the length before the value: 3 for a well-placed 03 that is too long, whether its value is there or not; else 10. b is what follows the length
abbrev pub due : ℕ → ℕ → List ℕ → ℕ
due t n b =
    first_due (3 ∷ 10 ∷ []) ((3, eqb t 3 && ltb (entry_bytes * max_batch) n) ∷ (10, not (fitting t n) || ltb (length b) n || (eqb t 3 && bad_flag (n / entry_bytes) (take n b))) ∷ [])

unfoldable pub sized : Reader → ℕ → ℕ → List ℕ → Reading
sized r t n b =
    let k = due t n b in
    let good = taken r.expected r t (take n b) (drop n b) in
    cond (eqb k 0) good (refused k r.field)

-- a tag before its length
abbrev pub tagged : Reader → ℕ → List ℕ → Reading
tagged r t (h ∷ l ∷ b) = sized r t (h * 256 + l) b
tagged r t (h ∷ []) = refused 10 r.field
tagged r t [] = refused 10 r.field

abbrev pub stopped : Reader → Expected → Reading
stopped r end = done r.map
stopped r size = refused 10 r.field
stopped r radius = refused 10 r.field
stopped r batches = refused 10 r.field

-- one field; where the file stops, it is done after FF and else refused at the field expected
unfoldable pub one_field : Reader → List ℕ → Reading
one_field r [] = stopped r r.expected
one_field r (t ∷ b) = let good = tagged r t b in cond (placed r.expected t) good (refused 10 r.field)

-- all fields; each takes three bytes at least, so that as many turns as there are bytes, and one to see the end, are enough
unfoldable pub read_on : ℕ → Reading → Reading
read_on zero s = s
read_on (suc n) (more r b) = read_on n (one_field r b)
read_on (suc n) (refused k f) = refused k f
read_on (suc n) (done m) = done m

unfoldable pub read_file : List ℕ → Reading
read_file b = read_on (suc (length b)) (more begin b)
