-- What the definitions give of sample texts, computed: the limits, texts and links of the URL
-- Standard, and the parts of an address.
use Rattle.std.proofs.Common.{◌≡◌, Ok, Err, Some, refl, true, false}
use Rattle.std.specs.Prelude.{codes}
use Rattle.url.proofs.OnLiterals.{url_on_literals}
use Rattle.address.specs.declared.address.TheConstants.{MAX_ADDRESS, MAX_HOST}
use Rattle.address.specs.declared.fault.AddressFault.TheVariants.{NotUrl, NotHttp, UserInfo}
use Rattle.address.specs.declared.scheme.Scheme.TheVariants.{Http, Https}
use Rattle.address.specs.Address.{read_address, read_address_as, join_address, scheme_of, address_against, address_of_parsed, address_of, url_text_of, url_of, origin_of, authority_of, host_of, port_of, path_query_of, dir_of, file_of, query_of, is_robots_file}

limits : (MAX_ADDRESS ≡ 8192) × (MAX_HOST ≡ 255)
limits = (refl, refl)

texts : (read_address (codes "HTTP://H:80/a/../b#f") ≡ Ok (codes "http://h/b"))
    × (read_address (codes "http://h:81") ≡ Ok (codes "http://h:81/"))
    × (read_address (codes "http://:@h/") ≡ Ok (codes "http://h/"))
    × (read_address (codes "http://h/a^b") ≡ Ok (codes "http://h/a%5Eb"))
    × (read_address (codes "http://0x7f.1/") ≡ Ok (codes "http://127.0.0.1/"))
    × (read_address (codes "http://h\\a") ≡ Ok (codes "http://h/a"))
    × (read_address (codes "http://XN--a/") ≡ Ok (codes "http://xn--a/"))
    × (read_address (codes "/a") ≡ Err NotUrl)
    × (read_address (codes "http://h:65536/") ≡ Err NotUrl)
    × (read_address (codes "https://u@h/") ≡ Err NotHttp)
    × (read_address (codes "http://u@h/") ≡ Err UserInfo)
    × (read_address (codes "http://:p@h/") ≡ Err UserInfo)
unfolding address_against address_of_parsed address_of url_text_of url_on_literals
texts = (refl, refl, refl, refl, refl, refl, refl, refl, refl, refl, refl, refl)

links : (join_address (codes "http://a/b/c/d;p?q") (codes "../g?y#s") ≡ Ok (codes "http://a/b/g?y"))
    × (join_address (codes "http://a/b/c/d;p?q") (codes "//g") ≡ Ok (codes "http://g/"))
    × (join_address (codes "http://a/b/c/d;p?q") (codes "?y") ≡ Ok (codes "http://a/b/c/d;p?y"))
    × (join_address (codes "http://a/b/c/d;p?q") (codes "") ≡ Ok (codes "http://a/b/c/d;p?q"))
    × (join_address (codes "http://a/b") (codes "https://h/") ≡ Err NotHttp)
unfolding address_against address_of_parsed address_of url_text_of scheme_of url_of url_on_literals
links = (refl, refl, refl, refl, refl)

-- as https http is read as https, and so are links of an https address; a port that is https's own is left out
secure : (read_address_as Https (codes "https://H:443/a#f") ≡ Ok (codes "https://h/a"))
    × (read_address_as Https (codes "http://h:80/a?b") ≡ Ok (codes "https://h/a?b"))
    × (read_address_as Https (codes "http://h:443/") ≡ Ok (codes "https://h/"))
    × (read_address_as Https (codes "http://h:81/") ≡ Ok (codes "https://h:81/"))
    × (read_address_as Https (codes "https://h:80/") ≡ Ok (codes "https://h:80/"))
    × (read_address_as Https (codes "ftp://h/") ≡ Err NotHttp)
    × (read_address_as Https (codes "http://u@h/") ≡ Err UserInfo)
    × (join_address (codes "https://a/b/c") (codes "../g?y#s") ≡ Ok (codes "https://a/g?y"))
    × (join_address (codes "https://a/b") (codes "//g") ≡ Ok (codes "https://g/"))
    × (join_address (codes "https://a/b") (codes "http://h/c") ≡ Ok (codes "https://h/c"))
    × (origin_of (codes "https://h:81/a") ≡ codes "https://h:81")
    × (scheme_of (codes "https://h/a") ≡ Https) × (scheme_of (codes "http://h/a") ≡ Http)
unfolding address_against address_of_parsed address_of url_text_of scheme_of url_of origin_of url_on_literals
secure = (refl, refl, refl, refl, refl, refl, refl, refl, refl, refl, refl, refl, refl)

parts : (origin_of (codes "http://h:81/a/b.html?u=/c") ≡ codes "http://h:81")
    × (authority_of (codes "http://h:81/a/b.html?u=/c") ≡ codes "h:81")
    × (host_of (codes "http://h:81/a/b.html?u=/c") ≡ codes "h")
    × (port_of (codes "http://h:81/a/b.html?u=/c") ≡ Some 81)
    × (path_query_of (codes "http://h:81/a/b.html?u=/c") ≡ codes "/a/b.html?u=/c")
    × (dir_of (codes "http://h:81/a/b.html?u=/c") ≡ codes "/a/")
    × (file_of (codes "http://h:81/a/b.html?u=/c") ≡ codes "b.html")
    × (query_of (codes "http://h:81/a/b.html?u=/c") ≡ codes "?u=/c")
    × (is_robots_file (codes "http://h/robots.txt") ≡ true)
    × (is_robots_file (codes "http://h/robots.txt?") ≡ false)
    × (is_robots_file (codes "http://h/a/robots.txt") ≡ false)
unfolding url_of origin_of authority_of host_of port_of path_query_of dir_of file_of query_of url_on_literals
parts = (refl, refl, refl, refl, refl, refl, refl, refl, refl, refl, refl)
