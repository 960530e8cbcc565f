-- The names of characters in references (HTML Standard, section 13.5): those of HTML 4, `apos`, and those that need no `;` after them.
use Rattle.std.specs.Prelude.{ℕ, List, [], ◌++◌, codes, if◌then◌else◌, ◌==◌}

-- The names of that many bytes, each with `#`, its character's number and `;` after it.
unfoldable pub rows_of : ℕ → List ℕ
rows_of len =
    if len == 2 then
    codes "LT#60;lt#60;GT#62;gt#62;Mu#924;Nu#925;Xi#926;Pi#928;mu#956;nu#957;xi#958;pi#960;ni#8715;or#8744;ne#8800;le#8804;"
    ++ codes "ge#8805;"
    else if len == 3 then
    codes "AMP#38;amp#38;yen#165;uml#168;not#172;shy#173;REG#174;reg#174;deg#176;ETH#208;eth#240;Eta#919;Rho#929;Tau#932;Phi#934;"
    ++ codes "Chi#935;Psi#936;eta#951;rho#961;tau#964;phi#966;chi#967;psi#968;piv#982;zwj#8205;lrm#8206;rlm#8207;sum#8721;ang#8736;"
    ++ codes "and#8743;cap#8745;cup#8746;int#8747;sim#8764;sub#8834;sup#8835;loz#9674;"
    else if len == 4 then
    codes "QUOT#34;quot#34;apos#39;nbsp#160;cent#162;sect#167;COPY#169;copy#169;ordf#170;macr#175;sup2#178;sup3#179;para#182;"
    ++ codes "sup1#185;ordm#186;Auml#196;Euml#203;Iuml#207;Ouml#214;Uuml#220;auml#228;euml#235;iuml#239;ouml#246;uuml#252;yuml#255;"
    ++ codes "Yuml#376;fnof#402;circ#710;Beta#914;Zeta#918;Iota#921;beta#946;zeta#950;iota#953;ensp#8194;emsp#8195;zwnj#8204;"
    ++ codes "bull#8226;euro#8364;real#8476;larr#8592;uarr#8593;rarr#8594;darr#8595;harr#8596;lArr#8656;uArr#8657;rArr#8658;"
    ++ codes "dArr#8659;hArr#8660;part#8706;isin#8712;prod#8719;prop#8733;cong#8773;nsub#8836;sube#8838;supe#8839;perp#8869;"
    ++ codes "sdot#8901;lang#10216;rang#10217;"
    else if len == 5 then
    codes "iexcl#161;pound#163;laquo#171;acute#180;micro#181;cedil#184;raquo#187;Acirc#194;Aring#197;AElig#198;Ecirc#202;"
    ++ codes "Icirc#206;Ocirc#212;times#215;Ucirc#219;THORN#222;szlig#223;acirc#226;aring#229;aelig#230;ecirc#234;icirc#238;"
    ++ codes "ocirc#244;ucirc#251;thorn#254;OElig#338;oelig#339;tilde#732;Alpha#913;Gamma#915;Delta#916;Theta#920;Kappa#922;"
    ++ codes "Sigma#931;Omega#937;alpha#945;gamma#947;delta#948;theta#952;kappa#954;sigma#963;omega#969;upsih#978;ndash#8211;"
    ++ codes "mdash#8212;lsquo#8216;rsquo#8217;sbquo#8218;ldquo#8220;rdquo#8221;bdquo#8222;prime#8242;Prime#8243;oline#8254;"
    ++ codes "frasl#8260;image#8465;trade#8482;crarr#8629;exist#8707;empty#8709;nabla#8711;notin#8713;minus#8722;radic#8730;"
    ++ codes "infin#8734;asymp#8776;equiv#8801;oplus#8853;lceil#8968;rceil#8969;clubs#9827;diams#9830;"
    else if len == 6 then
    codes "curren#164;brvbar#166;plusmn#177;middot#183;frac14#188;frac12#189;frac34#190;iquest#191;Agrave#192;Aacute#193;"
    ++ codes "Atilde#195;Ccedil#199;Egrave#200;Eacute#201;Igrave#204;Iacute#205;Ntilde#209;Ograve#210;Oacute#211;Otilde#213;"
    ++ codes "Oslash#216;Ugrave#217;Uacute#218;Yacute#221;agrave#224;aacute#225;atilde#227;ccedil#231;egrave#232;eacute#233;"
    ++ codes "igrave#236;iacute#237;ntilde#241;ograve#242;oacute#243;otilde#245;divide#247;oslash#248;ugrave#249;uacute#250;"
    ++ codes "yacute#253;Scaron#352;scaron#353;Lambda#923;lambda#955;sigmaf#962;thinsp#8201;dagger#8224;Dagger#8225;hellip#8230;"
    ++ codes "permil#8240;lsaquo#8249;rsaquo#8250;weierp#8472;forall#8704;lowast#8727;there4#8756;otimes#8855;lfloor#8970;"
    ++ codes "rfloor#8971;spades#9824;hearts#9829;"
    else if len == 7 then codes "Epsilon#917;Omicron#927;Upsilon#933;epsilon#949;omicron#959;upsilon#965;alefsym#8501;"
    else if len == 8 then codes "thetasym#977;"
    else []
