-- The text of a generated job: a page of so many sections, each told by a number, and
-- the same style sheet and assertion for all. The numbers come from a seed.
use Rattle.std.specs.Prelude.{ℕ, zero, suc, ◌+◌, ◌*◌, ◌/◌, ◌%◌, ◌^◌, List, ◌++◌, map, replicate, codes, decimal}
use Rattle.std.specs.List.{join_with_byte, range_with_len}

-- a job has at most so many sections
abbrev pub sections_most : ℕ
sections_most = 1000

-- ---- numbers

-- the number after x, of 64 bits
abbrev pub number_after : ℕ → ℕ
number_after x = (x * 6364136223846793005 + 1442695040888963407) % 2 ^ 64

-- the number at a place: the seed at 0, and the number of the k-th section at k
abbrev pub number_at : ℕ → ℕ → ℕ
number_at seed zero = seed
number_at seed (suc k) = number_after (number_at seed k)

-- ---- sections

-- the upper bits of a number, which tell what its section is
abbrev pub upper_bits : ℕ → ℕ
upper_bits x = x / 2 ^ 33

-- the number of its class, from 0 to 3
abbrev pub class_of : ℕ → ℕ
class_of x = upper_bits x % 4

-- how many words it has, from 1 to 5
abbrev pub word_count : ℕ → ℕ
word_count x = 1 + (upper_bits x / 4) % 5

-- so many words, with a space (32) between each two
unfoldable pub words : ℕ → List ℕ
words count = join_with_byte 32 (replicate count (codes "aaaa"))

-- an element with its class, and its words as text
unfoldable pub section : ℕ → List ℕ
section x =
    codes "{\"tag\":\"div\",\"attrs\":{\"class\":\"c" ++ decimal (class_of x) ++ codes "\"},\"children\":[\""
    ++ words (word_count x) ++ codes "\"]}"

-- the sections of a job, with a comma (44) between each two
unfoldable pub sections_text : ℕ → ℕ → List ℕ
sections_text seed count = join_with_byte 44 (map (λ k. section (number_at seed k)) (range_with_len 1 count))

-- ---- jobs

-- the text before the sections
unfoldable pub before_sections : List ℕ
before_sections =
    codes "{\"vizlog\":1,\"widths\":[320,1920],\"sizes\":[12,24],\"height\":800," ++
    codes "\"fonts\":[{\"name\":\"Square\",\"upem\":1000,\"ascent\":800,\"descent\":200," ++
    codes "\"default\":500,\"advances\":[]}]," ++
    codes "\"css\":[\"body{margin:0}div{height:40px}.c0{margin:10px 0}" ++
    codes ".c1{float:left;width:20%}.c2{clear:both}.c3{padding:1em}\"]," ++
    codes "\"page\":{\"tag\":\"html\",\"children\":[{\"tag\":\"body\",\"children\":["

-- the text after them
unfoldable pub after_sections : List ℕ
after_sections = codes "]}]},\"assert\":\"forall b in block: b.left >= 0 and b.right <= view.width\"}"

-- the job of a seed and of so many sections
abbrev pub job_text : ℕ → ℕ → List ℕ
job_text seed count = before_sections ++ sections_text seed count ++ after_sections
