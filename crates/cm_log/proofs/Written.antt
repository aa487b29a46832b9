-- A file that is written from its front and cut behind.
use Rattle.std.proofs.Common.{◌≡◌, ℕ, ◌+◌, ◌≤◌, List, length, drop, Some, IsSome, refl, sym, ◌∙◌, ap, subst, arith, length-append}
use Rattle.std.proofs.Math.Seq.{take-append_seam}
use Rattle.cm_disk.specs.Disk.{File, Files, bytes_of, put, written, shortened}
use Rattle.cm_disk.proofs.Puts.{put_here}

-- what is there before the cut
pub may_cut : (files x : Files) (place bytes : List ℕ) → put files place (written 0 bytes (files place)) ≡ x → IsSome (x place) × (length bytes ≤ length (bytes_of (x place)))
may_cut files x place bytes is =
    let file : x place ≡ written 0 bytes (files place) = ap (λ (f : Files). f place) (sym is) ∙ put_here files place _ in
    subst (λ (f : File). IsSome f × (length bytes ≤ length (bytes_of f))) (sym file) (refl, omega (arith, length-append bytes (drop (0 + length bytes) (bytes_of (files place)))))

-- what stands at the place
pub cut_file : (files : Files) (place bytes : List ℕ) → shortened (length bytes) (put files place (written 0 bytes (files place)) place) ≡ Some bytes
cut_file files place bytes =
    ap (λ (f : File). shortened (length bytes) f) (put_here files place (written 0 bytes (files place))) ∙ ap (λ (l : List ℕ). Some l) (take-append_seam bytes (drop (0 + length bytes) (bytes_of (files place))))
