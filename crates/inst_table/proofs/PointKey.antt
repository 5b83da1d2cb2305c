-- The bucket of the key of a point that is drawn with four libraries, by hand.
use Rattle.std.proofs.Common.{◌≡◌, ℕ, ◌*◌, ◌^◌, List, [], ◌∷◌, ◌++◌, length, replicate, refl}
use Rattle.inst_table.specs.Bucket.{key_words, buckets, bucket_of}

pub key-words : key_words ≡ 56
key-words = refl

pub all-buckets : buckets ≡ 256
all-buckets = refl

-- word 0: which libraries retain their information for a link; word 1: 1 plus the fragment module in its high half, and the vertex module;
-- word 19: the samples and their mask; word 22: the format and the write mask of attachment 0
unfoldable pub point_key : ℕ → List ℕ
point_key retained = retained ∷ 2 * 2 ^ 32 ∷ (replicate 17 0 ++ 0x11 ∷ 0 ∷ 0 ∷ 0x11 ∷ replicate 33 0)

pub point-key-length : length (point_key 0xF00) ≡ key_words
unfolding point_key
point-key-length = refl

pub point-key-words : point_key 0xF00 ≡ 3840 ∷ 8589934592 ∷ 0 ∷ 0 ∷ 0 ∷ 0 ∷ 0 ∷ 0 ∷ 0 ∷ 0 ∷ 0 ∷ 0 ∷ 0 ∷ 0 ∷ 0 ∷ 0 ∷ 0 ∷ 0 ∷ 0 ∷ 17 ∷ 0 ∷ 0 ∷ 17 ∷ 0 ∷ 0 ∷ 0 ∷ 0 ∷ 0
    ∷ 0 ∷ 0 ∷ 0 ∷ 0 ∷ 0 ∷ 0 ∷ 0 ∷ 0 ∷ 0 ∷ 0 ∷ 0 ∷ 0 ∷ 0 ∷ 0 ∷ 0 ∷ 0 ∷ 0 ∷ 0 ∷ 0 ∷ 0 ∷ 0 ∷ 0 ∷ 0 ∷ 0 ∷ 0 ∷ 0 ∷ 0 ∷ 0 ∷ []
unfolding point_key
point-key-words = refl

-- the bytes that aren't 0 are 15, then 2, and 17 twice
pub point-bucket : bucket_of (point_key 0xF00) ≡ 13
unfolding bucket_of point_key
point-bucket = refl

-- without the vertex library's information 14 stands in the place of 15
pub point-bucket-vertex_not_retained : bucket_of (point_key 0xE00) ≡ 12
unfolding bucket_of point_key
point-bucket-vertex_not_retained = refl
